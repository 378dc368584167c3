-- A turboprop keeps the laws of a kind.
use Rattle.std.specs.Prelude.{ℕ, ◌*◌, ◌/◌, ◌^◌, ◌≤◌, [], ◌∷◌, ℤ, pos, negsuc, ◌+ℤ◌}
use Rattle.std.proofs.Common.{sub-le, arith}
use Rattle.exact.specs.Rational.{nat, int, ◌+ℚ◌, ◌-ℚ◌, ◌*ℚ◌, maxℚ, ◌≤ℚ◌, ◌≈◌, Near}
use Rattle.exact.proofs.Laws.{≤_trans, ≈_refl, ≈_trans, ≈→≤, nat-<, nat-≥0, nat-≤, ≤_nat, nat-*, nat_monus, int-+, int-≤, +_mono, *_comm, *-≥0, ÷-≥0, left_max, max-≈, max-≤, near-≈, near_same, near_weaken, near-+, near_product, near_max_with, near_floor}
use Rattle.exact.proofs.Linear.{linear, at, con, ◌⊕◌, ◌⊛◌, ◌≼◌, ◌≋◌}
use Rattle.aircraft.specs.declared.record.Fuel.{Fuel}
use Rattle.aircraft.specs.declared.record.TurbopropCoefficients.{TurbopropCoefficients}
use Rattle.engine.specs.Meaning.{KindLaws}
use Rattle.engine.specs.Formulas.{thrust_factor, exact_thrust_factor}
use Rattle.engine.specs.Turboprops.{not_below_zero, propeller_thrust, exact_propeller_thrust, turboprop_thrust, exact_turboprop_thrust, propeller_consumption, exact_propeller_consumption, turboprop_consumption, exact_turboprop_consumption, turboprop_formulas, turboprop_engine}
use Rattle.engine.specs.Bounds.{propeller_thrust_high, propelled_high}
use Rattle.engine.specs.Rounding.{near_over, near_times, times_near, near_high}
use Rattle.engine.specs.Factor.{factor_near}
use Rattle.engine.specs.Laws.{FormulasClose, burning_laws}

above_zero : (z : ℤ) → nat (not_below_zero z) ≈ maxℚ (nat 0) (int z)
above_zero (pos n) = omega arith
above_zero (negsuc n) = omega arith

-- a whole thrust with a correction, held above 0
corrected_is : (n : ℕ) (z : ℤ) → nat (not_below_zero (pos n +ℤ z)) ≈ maxℚ (nat 0) (nat n +ℚ int z)
corrected_is n z = ≈_trans (above_zero (pos n +ℤ z)) (max-≈ (≈_refl (nat 0)) (int-+ (pos n) z))

module _ (c : TurbopropCoefficients) (h v : ℕ) (fast : 300 ≤ v) where
  propeller_near : Near (nat (propeller_thrust c v)) (exact_propeller_thrust c v) (nat 1)
  unfolding exact_propeller_thrust
  propeller_near = near_floor (10 * c.ctc1) v (omega arith)

  propeller_low : nat 0 ≤ℚ exact_propeller_thrust c v
  unfolding exact_propeller_thrust
  propeller_low = ÷-≥0 (nat-< (omega arith)) (nat-≥0 (10 * c.ctc1))

  factor_close : Near (nat (thrust_factor c.ctc2 0 h)) (exact_thrust_factor c.ctc2 (nat 0) h) (nat 1)
  factor_close = factor_near c.ctc2 h (omega (arith, c.ctc2_least)) (near_same (≈_refl (nat 0)) (nat-≥0 0))

  -- before the floor, in 10⁻⁹ mN
  product_near : Near (nat (propeller_thrust c v * thrust_factor c.ctc2 0 h)) (exact_propeller_thrust c v *ℚ exact_thrust_factor c.ctc2 (nat 0) h) (nat 4333300001)
  product_near =
      near_weaken (near-≈ (nat-* _ _) (≈_refl _) (near_product (nat-≥0 (thrust_factor c.ctc2 0 h)) propeller_low propeller_near factor_close)) room
    where
      room : nat 1 *ℚ nat (thrust_factor c.ctc2 0 h) +ℚ exact_propeller_thrust c v *ℚ nat 1 ≤ℚ nat 4333300001
      room =
          linear
          (nat (thrust_factor c.ctc2 0 h) ∷ exact_propeller_thrust c v ∷ exact_propeller_thrust c v *ℚ nat 1 ∷ [])
          (at 0 ≼ con 1000000000 ∷ at 1 ≼ con 3333300001 ∷ at 2 ≋ 1 ⊛ at 1 ∷ [])
          (1 ⊛ at 0 ⊕ at 2 ≼ con 4333300001)
          (λ d u w p h. omega arith)
          (nat-≤ (sub-le _ _), (near_high 3333300001 (omega (arith, propeller_thrust_high c v fast)) propeller_near, (*_comm _ (nat 1), tt)))

  thrust_near : Near (nat (turboprop_thrust c h v)) (exact_turboprop_thrust c h v) (nat 10)
  unfolding exact_turboprop_thrust
  thrust_near =
      near_weaken
      (near-≈ (corrected_is _ c.ctc3) (≈_refl _) (near_max_with (nat 0) (near-+ (near_over (10 ^ 9) 10 (omega arith) (omega arith) product_near) (near_same (≈_refl (int c.ctc3)) (nat-≥0 0)))))
      (omega arith)

  thrust_low : nat 0 ≤ℚ exact_turboprop_thrust c h v
  unfolding exact_turboprop_thrust
  thrust_low = left_max _ _

  thrust_high : turboprop_thrust c h v ≤ 9999999990
  thrust_high =
      ≤_nat _ _ (≤_trans (≈→≤ (corrected_is _ c.ctc3)) (max-≤ (nat-≥0 9999999990) (≤_trans (+_mono (nat-≤ propelled) (int-≤ c.ctc3_most)) (omega arith))))
    where
      propelled : propeller_thrust c v * thrust_factor c.ctc2 0 h / 10 ^ 9 ≤ 3333300000
      propelled = propelled_high _ _ (propeller_thrust_high c v fast) (sub-le _ _)

module _ (f : Fuel) (v : ℕ) where
  propeller_consumption_near : Near (nat (propeller_consumption f v)) (exact_propeller_consumption f v) (nat 1)
  unfolding exact_propeller_consumption
  propeller_consumption_near = times_near f.cf1 f.cf2 1 (omega (arith, f.cf2_least)) (omega arith) (near_same (nat_monus f.cf2 (10 * v)) (nat-≥0 0))

  propeller_consumption_low : nat 0 ≤ℚ exact_propeller_consumption f v
  unfolding exact_propeller_consumption
  propeller_consumption_low = ÷-≥0 (nat-< (omega (arith, f.cf2_least))) (*-≥0 (nat-≥0 f.cf1) (left_max (nat 0) (nat f.cf2 -ℚ nat (10 * v))))

  consumption_near : v ≤ 7000 → Near (nat (turboprop_consumption f v)) (exact_turboprop_consumption f v) (nat 2)
  unfolding exact_turboprop_consumption
  consumption_near p = near_times v (10 ^ 4) 2 (omega arith) (omega arith) propeller_consumption_near

  consumption_low : nat 0 ≤ℚ exact_turboprop_consumption f v
  unfolding exact_turboprop_consumption
  consumption_low = ÷-≥0 {x = exact_propeller_consumption f v *ℚ nat v} {y = nat (10 ^ 4)} (nat-< {b = 10 ^ 4} (omega arith)) (*-≥0 propeller_consumption_low (nat-≥0 v))

pub turboprop_close : (c : TurbopropCoefficients) → FormulasClose (turboprop_formulas c)
turboprop_close c =
    record {
      thrust = λ h v p q. record { high = thrust_high c h v q; near = thrust_near c h v q; low = thrust_low c h v q };
      consumption = λ v p. record { near = consumption_near c.fuel v p; low = consumption_low c.fuel v };
    }

pub turboprop_laws : (c : TurbopropCoefficients) → KindLaws (turboprop_engine c)
turboprop_laws c = burning_laws (turboprop_formulas c) (turboprop_close c)
