-- A jet keeps the laws of a kind.
use Rattle.std.specs.Prelude.{ℕ, ◌+◌, ◌*◌, ◌^◌, ◌≤◌}
use Rattle.std.proofs.Common.{arith}
use Rattle.std.proofs.lemmas.Nat.{rows}
use Rattle.exact.specs.Rational.{nat, ◌*ℚ◌, ◌≤ℚ◌, Near}
use Rattle.exact.proofs.Laws.{nat-<, nat-≥0, nat-≤, *-≥0, ÷-≥0, near_weaken, near_floor}
use Rattle.aircraft.specs.declared.record.Fuel.{Fuel}
use Rattle.aircraft.specs.declared.record.JetCoefficients.{JetCoefficients}
use Rattle.engine.specs.Meaning.{KindLaws}
use Rattle.engine.specs.Formulas.{exact_thrust_factor}
use Rattle.engine.specs.Jets.{jet_rise, exact_jet_rise, jet_thrust, exact_jet_thrust, jet_consumption, exact_jet_consumption, jet_formulas, jet_engine}
use Rattle.engine.specs.Bounds.{rise_high}
use Rattle.engine.specs.Rounding.{times_near}
use Rattle.engine.specs.Factor.{factor_near, factor_low}
use Rattle.engine.specs.Laws.{FormulasClose, burning_laws}

rise_near : (c : JetCoefficients) (h : ℕ) → Near (nat (jet_rise c h)) (exact_jet_rise c h) (nat 1)
unfolding exact_jet_rise
rise_near c h = near_floor (c.ctc3 * (h * h)) (10 ^ 7) (omega arith)

thrust_high : (c : JetCoefficients) (h : ℕ) → h ≤ 60000 → jet_thrust c h ≤ 9999999990
thrust_high c h p = let m = c.ctc1_most in let r = rise_high c h p in grind (arith, rows)

thrust_near : (c : JetCoefficients) (h : ℕ) → Near (nat (jet_thrust c h)) (exact_jet_thrust c h) (nat 10)
unfolding exact_jet_thrust
thrust_near c h =
    times_near c.ctc1 (10 ^ 9) 10 (omega arith) (omega (arith, c.ctc1_most)) (factor_near c.ctc2 h (omega (arith, c.ctc2_least)) (rise_near c h))

thrust_low : (c : JetCoefficients) (h : ℕ) → nat 0 ≤ℚ exact_jet_thrust c h
unfolding exact_jet_thrust
thrust_low c h =
    ÷-≥0 {x = nat c.ctc1 *ℚ exact_thrust_factor c.ctc2 (exact_jet_rise c h) h} {y = nat (10 ^ 9)} (nat-< {b = 10 ^ 9} (omega arith)) (*-≥0 (nat-≥0 c.ctc1) (factor_low c.ctc2 h (exact_jet_rise c h)))

consumption_near : (f : Fuel) (v : ℕ) → Near (nat (jet_consumption f v)) (exact_jet_consumption f v) (nat 2)
unfolding exact_jet_consumption
consumption_near f v = near_weaken (near_floor (f.cf1 * (f.cf2 + 10 * v)) f.cf2 (omega (arith, f.cf2_least))) (nat-≤ (omega arith))

consumption_low : (f : Fuel) (v : ℕ) → nat 0 ≤ℚ exact_jet_consumption f v
unfolding exact_jet_consumption
consumption_low f v = ÷-≥0 (nat-< (omega (arith, f.cf2_least))) (nat-≥0 (f.cf1 * (f.cf2 + 10 * v)))

pub jet_close : (c : JetCoefficients) → FormulasClose (jet_formulas c)
jet_close c =
    record {
      thrust = λ h v p q. record { high = thrust_high c h p; near = thrust_near c h; low = thrust_low c h };
      consumption = λ v p. record { near = consumption_near c.fuel v; low = consumption_low c.fuel v };
    }

pub jet_laws : (c : JetCoefficients) → KindLaws (jet_engine c)
jet_laws c = burning_laws (jet_formulas c) (jet_close c)
