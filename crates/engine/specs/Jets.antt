-- A jet: its formulas in whole numbers and, with no rounding, in fractions, and its meaning as a kind.
use Rattle.std.specs.Prelude.{ℕ, ◌+◌, ◌*◌, ◌/◌, ◌^◌}
use Rattle.exact.specs.Rational.{ℚ, nat, ◌*ℚ◌, ◌÷ℚ◌}
use Rattle.aircraft.specs.declared.record.Fuel.{Fuel}
use Rattle.aircraft.specs.declared.record.JetCoefficients.{JetCoefficients}
use Rattle.engine.specs.Meaning.{KindMeaning}
use Rattle.engine.specs.Formulas.{thrust_factor, exact_thrust_factor, KindFormulas, burning}

-- what CTc3 adds to the thrust factor, in 10⁻⁹
abbrev pub jet_rise : JetCoefficients → ℕ → ℕ
jet_rise c h = c.ctc3 * (h * h) / 10 ^ 7

unfoldable pub exact_jet_rise : JetCoefficients → ℕ → ℚ
exact_jet_rise c h = nat (c.ctc3 * (h * h)) ÷ℚ nat (10 ^ 7)

abbrev pub jet_thrust : JetCoefficients → ℕ → ℕ
jet_thrust c h = c.ctc1 * thrust_factor c.ctc2 (jet_rise c h) h / 10 ^ 9

unfoldable pub exact_jet_thrust : JetCoefficients → ℕ → ℚ
exact_jet_thrust c h = nat c.ctc1 *ℚ exact_thrust_factor c.ctc2 (exact_jet_rise c h) h ÷ℚ nat (10 ^ 9)

-- specific consumption at a speed
abbrev pub jet_consumption : Fuel → ℕ → ℕ
jet_consumption f v = f.cf1 * (f.cf2 + 10 * v) / f.cf2

unfoldable pub exact_jet_consumption : Fuel → ℕ → ℚ
exact_jet_consumption f v = nat (f.cf1 * (f.cf2 + 10 * v)) ÷ℚ nat f.cf2

abbrev pub jet_formulas : JetCoefficients → KindFormulas
jet_formulas c =
    record {
      fuel = c.fuel;
      thrust = λ h v. jet_thrust c h;
      exact_thrust = λ h v. exact_jet_thrust c h;
      consumption = jet_consumption c.fuel;
      exact_consumption = exact_jet_consumption c.fuel;
    }

abbrev pub jet_engine : JetCoefficients → KindMeaning
jet_engine c = burning (jet_formulas c)
