-- The table falls and keeps its bounds, by one test over all of its entries.
use Rattle.std.specs.Prelude.{◌≡◌, ℕ, ◌+◌, ◌<◌, ◌≤◌, Bool, true, ◌&&◌, nat_le, nat_lt, refl}
use Rattle.std.proofs.Common.{arith}
use Rattle.std.proofs.lemmas.Bool.{agree_below_at}
use Rattle.std.proofs.lemmas.Bool.Decides.{nat_tests}
use Rattle.air.specs.Standard.{table, level, Falling, Within}

-- of the entry at place k: within the bounds, and above the next, which past the last is 0
abbrev keeps : ℕ → Bool
keeps k = nat_le 5000 (level k) && nat_le (level k) 150000 && nat_lt (level (k + 1)) (level k)

kept : (k : ℕ) → k < 61 → keeps k ≡ true
unfolding table
kept k h = agree_below_at keeps (λ _. true) 61 k refl h

pub level_bounds : (k : ℕ) → k < 61 → (5000 ≤ level k) × (level k ≤ 150000)
level_bounds k h = let e = kept k h in grind (arith, nat_tests)

pub within : Within 5000 150000 table
unfolding table
within k h = level_bounds k h

pub falling : Falling table
unfolding table
falling k h = let e = kept k (omega arith) in grind (arith, nat_tests)
