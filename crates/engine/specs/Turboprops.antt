-- A turboprop: its formulas in whole numbers and, with no rounding, in fractions, and its meaning as a kind.
use Rattle.std.specs.Prelude.{ℕ, ◌-◌, ◌*◌, ◌/◌, ◌^◌, ℤ, pos, negsuc, ◌+ℤ◌}
use Rattle.exact.specs.Rational.{ℚ, nat, int, ◌+ℚ◌, ◌-ℚ◌, ◌*ℚ◌, ◌÷ℚ◌, maxℚ}
use Rattle.aircraft.specs.declared.record.Fuel.{Fuel}
use Rattle.aircraft.specs.declared.record.TurbopropCoefficients.{TurbopropCoefficients}
use Rattle.engine.specs.Meaning.{KindMeaning}
use Rattle.engine.specs.Formulas.{thrust_factor, exact_thrust_factor, KindFormulas, burning}

-- a number, or 0 where it is negative
abbrev pub not_below_zero : ℤ → ℕ
not_below_zero (pos n) = n
not_below_zero (negsuc n) = 0

-- thrust at sea level before CTc3, in mN
abbrev pub propeller_thrust : TurbopropCoefficients → ℕ → ℕ
propeller_thrust c v = 10 * c.ctc1 / v

unfoldable pub exact_propeller_thrust : TurbopropCoefficients → ℕ → ℚ
exact_propeller_thrust c v = nat (10 * c.ctc1) ÷ℚ nat v

abbrev pub turboprop_thrust : TurbopropCoefficients → ℕ → ℕ → ℕ
turboprop_thrust c h v =
    not_below_zero (pos (propeller_thrust c v * thrust_factor c.ctc2 0 h / 10 ^ 9) +ℤ c.ctc3)

unfoldable pub exact_turboprop_thrust : TurbopropCoefficients → ℕ → ℕ → ℚ
exact_turboprop_thrust c h v =
    maxℚ (nat 0) (exact_propeller_thrust c v *ℚ exact_thrust_factor c.ctc2 (nat 0) h ÷ℚ nat (10 ^ 9) +ℚ int c.ctc3)

-- specific consumption per 1,000 kt
abbrev pub propeller_consumption : Fuel → ℕ → ℕ
propeller_consumption f v = f.cf1 * (f.cf2 - 10 * v) / f.cf2

unfoldable pub exact_propeller_consumption : Fuel → ℕ → ℚ
exact_propeller_consumption f v = nat f.cf1 *ℚ maxℚ (nat 0) (nat f.cf2 -ℚ nat (10 * v)) ÷ℚ nat f.cf2

-- specific consumption at a speed
abbrev pub turboprop_consumption : Fuel → ℕ → ℕ
turboprop_consumption f v = propeller_consumption f v * v / 10 ^ 4

unfoldable pub exact_turboprop_consumption : Fuel → ℕ → ℚ
exact_turboprop_consumption f v = exact_propeller_consumption f v *ℚ nat v ÷ℚ nat (10 ^ 4)

abbrev pub turboprop_formulas : TurbopropCoefficients → KindFormulas
turboprop_formulas c =
    record {
      fuel = c.fuel;
      thrust = turboprop_thrust c;
      exact_thrust = exact_turboprop_thrust c;
      consumption = turboprop_consumption c.fuel;
      exact_consumption = exact_turboprop_consumption c.fuel;
    }

abbrev pub turboprop_engine : TurbopropCoefficients → KindMeaning
turboprop_engine c = burning (turboprop_formulas c)
