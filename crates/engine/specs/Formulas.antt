-- The formulas that jets and turboprops share, in whole numbers and, with no rounding, in fractions (`exact-`).
-- `/` rounds down and `-` stops at 0.
use Rattle.std.specs.Prelude.{ℕ, ◌+◌, ◌-◌, ◌*◌, ◌/◌, ◌^◌, Bool, nat_lt}
use Rattle.exact.specs.Rational.{ℚ, nat, ◌+ℚ◌, ◌-ℚ◌, ◌*ℚ◌, ◌÷ℚ◌, maxℚ}
use Rattle.aircraft.specs.declared.record.Fuel.{Fuel}
use Rattle.engine.specs.Meaning.{KindMeaning}

-- what is left of thrust at an altitude, in 10⁻⁹: 1 − altitude/CTc2, with what the kind adds to it
abbrev pub thrust_factor : (ctc2 rise h : ℕ) → ℕ
thrust_factor ctc2 rise h = (10 ^ 9 + rise) - (10 ^ 9 * h / ctc2)

unfoldable pub exact_thrust_factor : (ctc2 : ℕ) (rise : ℚ) (h : ℕ) → ℚ
exact_thrust_factor ctc2 rise h = maxℚ (nat 0) ((nat (10 ^ 9) +ℚ rise) -ℚ nat (10 ^ 9 * h) ÷ℚ nat ctc2)

-- nominal flow by the specific consumption, which counts in 10⁻⁸ kg per minute and kN
abbrev pub flow_of : (consumption thrust : ℕ) → ℕ
flow_of e n = e * n / 10 ^ 8

unfoldable pub exact_flow_of : (consumption thrust : ℚ) → ℚ
exact_flow_of e x = e *ℚ x ÷ℚ nat (10 ^ 8)

-- a specific consumption at which nominal flow is refused
abbrev pub too_thirsty : ℕ → Bool
too_thirsty e = nat_lt 400000000 e

abbrev pub idle_flow : Fuel → ℕ → ℕ
idle_flow f h = f.cf3 * (f.cf4 - h) / f.cf4

unfoldable pub exact_idle_flow : Fuel → ℕ → ℚ
exact_idle_flow f h = nat f.cf3 *ℚ maxℚ (nat 0) (nat f.cf4 -ℚ nat h) ÷ℚ nat f.cf4

-- what sets one kind apart from another: thrust at an altitude and a speed, specific consumption at a speed, and the fuel coefficients
pub record KindFormulas : Type 0 where
  pub fuel : Fuel
  pub thrust : ℕ → ℕ → ℕ
  pub exact_thrust : ℕ → ℕ → ℚ
  pub consumption : ℕ → ℕ
  pub exact_consumption : ℕ → ℚ

-- the kind with this thrust and specific consumption, and idle flow by Cf3 and Cf4
abbrev pub burning : KindFormulas → KindMeaning
burning k =
    record {
      thrust = k.thrust;
      nominal = λ v n. flow_of (k.consumption v) n;
      idle = idle_flow k.fuel;
      exact_thrust = k.exact_thrust;
      exact_nominal = λ v x. exact_flow_of (k.exact_consumption v) x;
      exact_idle = exact_idle_flow k.fuel;
      refuses = λ v. too_thirsty (k.consumption v);
    }
