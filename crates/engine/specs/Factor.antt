-- The thrust factor is close to its exact value, which is not negative.
use Rattle.std.specs.Prelude.{ℕ, ◌+◌, ◌*◌, ◌/◌, ◌^◌, ◌<◌}
use Rattle.std.proofs.Common.{arith}
use Rattle.exact.specs.Rational.{ℚ, nat, ◌≤ℚ◌, Near}
use Rattle.exact.proofs.Laws.{≈_refl, ≈_trans, nat-≥0, nat-+, nat_monus, max-≈, −-≈, left_max, near-≈, near_same, near_weaken, near-+, near-−, near_max_with, near_floor}
use Rattle.engine.specs.Formulas.{thrust_factor, exact_thrust_factor}

pub factor_near : {rise e : ℕ} {x : ℚ} (ctc2 h : ℕ) → 0 < ctc2 → Near (nat rise) x (nat e) → Near (nat (thrust_factor ctc2 rise h)) (exact_thrust_factor ctc2 x h) (nat (e + 1))
unfolding exact_thrust_factor
factor_near {rise} {e} {x} ctc2 h p n =
    near_weaken
    (near-≈ (≈_trans (nat_monus (10 ^ 9 + rise) fall) (max-≈ (≈_refl (nat 0)) (−-≈ (nat-+ (10 ^ 9) rise) (≈_refl (nat fall)))))
    (≈_refl _)
    (near_max_with (nat 0) (near-− (near-+ (near_same (≈_refl (nat (10 ^ 9))) (nat-≥0 0)) n) (near_floor (10 ^ 9 * h) ctc2 p))))
    (omega arith)
  where
    fall : ℕ
    fall = 10 ^ 9 * h / ctc2

pub factor_low : (ctc2 h : ℕ) (x : ℚ) → nat 0 ≤ℚ exact_thrust_factor ctc2 x h
unfolding exact_thrust_factor
factor_low ctc2 h x = left_max _ _
