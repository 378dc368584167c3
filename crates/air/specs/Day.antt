-- The air of a day: its meaning, the bounds that it keeps, when two meanings agree, and what a day answers.
use Rattle.std.specs.Prelude.{◌≡◌, ℕ, ◌≤◌, cond, ℤ, pos, negsuc, ◌≤ℤ◌, Ok, Err, Result, nat_le}
use Rattle.refusal.specs.declared.refusal.Refusal.{Refusal}
use Rattle.refusal.specs.declared.refusal.Refusal.TheVariants.{TooHigh}

-- for each whole foot, the density in 10⁻⁵ kg/m³ and the deviation from standard temperature in 0.01 K
pub record Air : Type 0 where
  pub pair : ℕ → ℕ × ℤ

-- the bounds of both, from 0 to 60,000 ft; nothing is asked above
pub record AirLaws (a : Air) : Type 0 where
  pub density_low : (h : ℕ) → h ≤ 60000 → 5000 ≤ (a.pair h).0
  pub density_high : (h : ℕ) → h ≤ 60000 → (a.pair h).0 ≤ 150000
  pub deviation_low : (h : ℕ) → h ≤ 60000 → negsuc 4999 ≤ℤ (a.pair h).1
  pub deviation_high : (h : ℕ) → h ≤ 60000 → (a.pair h).1 ≤ℤ pos 5000

-- two meanings agree where a day can be asked
abbrev pub SameAir : Air → Air → Type 0
SameAir a b = (h : ℕ) → h ≤ 60000 → a.pair h ≡ b.pair h

-- the pair up to 60,000 ft, a refusal above
abbrev pub day_answer : Air → ℕ → Result (ℕ × ℤ) Refusal
day_answer a h = cond (nat_le h 60000) (Ok (a.pair h)) (Err TooHigh)
