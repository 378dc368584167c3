-- The laws of nominal and idle flow, for any specific consumption that is within 2 of its exact value.
use Rattle.std.specs.Prelude.{ℕ, ◌-◌, ◌^◌, ◌≤◌, [], ◌∷◌}
use Rattle.std.proofs.Common.{sub-le, arith}
use Rattle.std.proofs.lemmas.Nat.{rows}
use Rattle.exact.specs.Rational.{ℚ, nat, ◌-ℚ◌, ◌*ℚ◌, ◌÷ℚ◌, ◌≤ℚ◌, Near}
use Rattle.exact.proofs.Laws.{≤_trans, ≈→≤, nat-<, nat-≥0, nat_monus, *_comm, *-−, *-≥0, *_mono_left, *_mono₂, ÷-≤, ÷-≥0, ÷_mono, shrink, left_max, near_same}
use Rattle.exact.proofs.Linear.{linear, at, con, ◌⊖◌, ◌⊛◌, ◌≼◌, ◌≋◌}
use Rattle.aircraft.specs.declared.record.Fuel.{Fuel}
use Rattle.engine.specs.Formulas.{flow_of, exact_flow_of, idle_flow, exact_idle_flow}
use Rattle.engine.specs.Bounds.{share}
use Rattle.engine.specs.Rounding.{near_times, times_near}

pub flow_high : (e n : ℕ) → e ≤ 400000000 → n ≤ 10 ^ 10 → flow_of e n ≤ 10 ^ 11
flow_high e n p q = grind (arith, rows)

pub flow_near : (e : ℕ) (y : ℚ) (n : ℕ) → n ≤ 10 ^ 10 → Near (nat e) y (nat 2) → Near (nat (flow_of e n)) (exact_flow_of y (nat n)) (nat 250)
unfolding exact_flow_of
flow_near e y n p near = near_times n (10 ^ 8) 250 (omega arith) (omega arith) near

module _ (y : ℚ) (y_low : nat 0 ≤ℚ y) where
  pub exact_flow_low : (x : ℚ) → nat 0 ≤ℚ x → nat 0 ≤ℚ exact_flow_of y x
  unfolding exact_flow_of
  exact_flow_low x p = ÷-≥0 {x = y *ℚ x} {y = nat (10 ^ 8)} (nat-< {b = 10 ^ 8} (omega arith)) (*-≥0 y_low p)

  pub exact_flow_rises : (x x' : ℚ) → x ≤ℚ x' → exact_flow_of y x ≤ℚ exact_flow_of y x'
  unfolding exact_flow_of
  exact_flow_rises x x' p = ÷_mono {x = y *ℚ x} {x' = y *ℚ x'} {y = nat (10 ^ 8)} (nat-< {b = 10 ^ 8} (omega arith)) (*_mono_left y y_low p)

  module _ (y_high : y ≤ℚ nat 400000002) where
    pub exact_flow_high : (x : ℚ) → nat 0 ≤ℚ x → x ≤ℚ nat (10 ^ 10) → exact_flow_of y x ≤ℚ nat (10 ^ 11)
    unfolding exact_flow_of
    exact_flow_high x p q =
        ÷-≤ {x = y *ℚ x} {y = nat (10 ^ 8)} (nat-< {b = 10 ^ 8} (omega arith)) (≤_trans (*_mono₂ y_low (nat-≥0 (10 ^ 10)) y_high q) (omega arith))

    pub exact_flow_gains : (x x' : ℚ) → x ≤ℚ x' → nat 1000 *ℚ (exact_flow_of y x' -ℚ exact_flow_of y x) ≤ℚ nat 4001 *ℚ (x' -ℚ x)
    unfolding exact_flow_of
    exact_flow_gains x x' p =
        linear
        (y *ℚ x ÷ℚ nat (10 ^ 8) ∷ y *ℚ x' ÷ℚ nat (10 ^ 8) ∷ y *ℚ x ∷ y *ℚ x' ∷ (x' -ℚ x) *ℚ y ∷ x' *ℚ y ∷ x *ℚ y ∷ x ∷ x' ∷ [])
        ((10 ^ 8) ⊛ at 0 ≋ at 2 ∷ (10 ^ 8) ⊛ at 1 ≋ at 3 ∷ at 4 ≋ at 5 ⊖ at 6 ∷ at 5 ≋ at 3 ∷ at 6 ≋ at 2 ∷ at 4 ≼ 400000002 ⊛ (at 8 ⊖ at 7) ∷ at 7 ≼ at 8 ∷ [])
        (1000 ⊛ (at 1 ⊖ at 0) ≼ 4001 ⊛ (at 8 ⊖ at 7))
        (λ d u w p h. omega arith)
        (shrink (10 ^ 8) (omega arith) (y *ℚ x), (shrink (10 ^ 8) (omega arith) (y *ℚ x'), (*-− x' x y, (*_comm x' y, (*_comm x y, (slope, (p, tt)))))))
      where
        more : nat 0 ≤ℚ x' -ℚ x
        more = linear (x ∷ x' ∷ []) (at 0 ≼ at 1 ∷ []) (con 0 ≼ at 1 ⊖ at 0) (λ d u w p h. omega arith) (p, tt)

        slope : (x' -ℚ x) *ℚ y ≤ℚ nat 400000002 *ℚ (x' -ℚ x)
        slope = ≤_trans (*_mono_left (x' -ℚ x) more y_high) (≈→≤ (*_comm (x' -ℚ x) (nat 400000002)))

pub idle_high : (f : Fuel) (h : ℕ) → idle_flow f h ≤ 1000000000
idle_high f h = omega (arith, f.cf3_most, share f.cf3 (f.cf4 - h) f.cf4 (sub-le f.cf4 h))

pub exact_idle_low : (f : Fuel) (h : ℕ) → nat 0 ≤ℚ exact_idle_flow f h
unfolding exact_idle_flow
exact_idle_low f h = ÷-≥0 (nat-< (omega (arith, f.cf4_least))) (*-≥0 (nat-≥0 f.cf3) (left_max (nat 0) (nat f.cf4 -ℚ nat h)))

pub idle_near : (f : Fuel) (h : ℕ) → Near (nat (idle_flow f h)) (exact_idle_flow f h) (nat 1)
unfolding exact_idle_flow
idle_near f h = times_near f.cf3 f.cf4 1 (omega (arith, f.cf4_least)) (omega arith) (near_same (nat_monus f.cf4 h) (nat-≥0 0))
