-- How large the whole-number formulas get within the ranges of the coefficients.
use Rattle.std.specs.Prelude.{ℕ, ◌-◌, ◌*◌, ◌/◌, ◌^◌, ◌≤◌}
use Rattle.std.proofs.Common.{mul-le-mul, sub-le, arith}
use Rattle.std.proofs.Math.Nat.{div-le_of_le-mul}
use Rattle.std.proofs.lemmas.Nat.{rows}
use Rattle.aircraft.specs.declared.record.Fuel.{Fuel}
use Rattle.aircraft.specs.declared.record.JetCoefficients.{JetCoefficients}
use Rattle.aircraft.specs.declared.record.TurbopropCoefficients.{TurbopropCoefficients}
use Rattle.engine.specs.Jets.{jet_rise}
use Rattle.engine.specs.Turboprops.{propeller_thrust, propeller_consumption}

pub product : {a b : ℕ} (m n : ℕ) → a ≤ m → b ≤ n → a * b ≤ m * n
product m n p q = mul-le-mul p q

pub quotient : (a b n : ℕ) → a ≤ b * n → a / b ≤ n
quotient a b n p = div-le_of_le-mul b p

-- a share of a, in proportion to d of b
pub share : (a d b : ℕ) → d ≤ b → a * d / b ≤ a
share a d b p = grind (arith, rows)

pub rise_high : (c : JetCoefficients) (h : ℕ) → h ≤ 60000 → jet_rise c h ≤ 3599964000
rise_high c h p =
    let m = c.ctc3_most in grind (arith, rows)

pub propeller_thrust_high : (c : TurbopropCoefficients) (v : ℕ) → 300 ≤ v → propeller_thrust c v ≤ 3333300000
propeller_thrust_high c v p =
    let m = c.ctc1_most in grind (arith, rows)

-- what is left of it at an altitude
pub propelled_high : (a k : ℕ) → a ≤ 3333300000 → k ≤ 10 ^ 9 → a * k / 10 ^ 9 ≤ 3333300000
propelled_high a k p q = grind (arith, rows)

pub propeller_consumption_high : (f : Fuel) (v : ℕ) → propeller_consumption f v ≤ 1000000000
propeller_consumption_high f v = omega (arith, f.cf1_most, share f.cf1 (f.cf2 - 10 * v) f.cf2 (sub-le f.cf2 (10 * v)))
