use Rattle.std.proofs.Common.{ℕ, ◌<◌, ◌≤◌, ℤ, pos, ◌+ℤ◌, ◌-ℤ◌, w32, to_z, of_z, sym, ap, ◌∙◌, arith}
use Rattle.std.proofs.lemmas.Int.{ints}
use Rattle.opf.specs.Numbers.{raising, lowering, fixed_point}
use Rattle.opf.specs.Counts.{at_most}
use Rattle.opf.proofs.Counts.{fixed_zero, kept_some, ten_pos, shifted, shifted_up, shifted_down, past_limit, raised_units, lowered_broken, lowered_units}
use Rattle.opf.proofs.number.Number.units.Goals as goal

abbrev wide : ℤ → ℤ
wide z = to_z w32 (of_z w32 z)

abbrev shift : ℤ → ℤ → ℤ
shift a b = wide (wide (wide a +ℤ wide b) -ℤ pos 5)

pub returns-then-digits-eq0 : goal.returns-then-digits-eq0
returns-then-digits-eq0 c =
    let a = raising c.args.decimals c.args.self in
    let b = lowering c.args.self in
    kept_some 18446744073709551615 0 (omega arith)
    ∙ ap (at_most 18446744073709551615) (sym (ap (λ (d : ℕ). fixed_point d a b) (sym c.from-digits.ensures ∙ c.if-digits-eq0.true) ∙ fixed_zero a b))

pub returns-in_err-power : goal.returns-in_err-power
returns-in_err-power c =
    let a = raising c.args.decimals c.args.self in
    let b = lowering c.args.self in
    let some : 0 < c.args.self.digits = omega arith in
    let fits : c.args.self.digits ≤ 18446744073709551615 = omega arith in
    c.from_residual.ensures
    ∙ past_limit c.args.self.digits a b c.unsigned_abs.result 18446744073709551615 some fits (omega (arith, c.in_err-power.ensures))
    (shifted c.args.decimals c.unsigned_abs.result c.args.self.exponent (shift c.from.result c.from-2.result) c.unsigned_abs.ensures.value (omega (arith, ints)))

pub returns-then-shift-ge0 : goal.returns-then-shift-ge0
returns-then-shift-ge0 c =
    let a = raising c.args.decimals c.args.self in
    let b = lowering c.args.self in
    rw c.from-digits.ensures at (raised_units c.from-digits.result a b c.unsigned_abs.result 18446744073709551615 c.in_ok-power.power c.checked_mul.result
    (shifted_up c.args.decimals c.unsigned_abs.result c.args.self.exponent (shift c.from.result c.from-2.result) c.unsigned_abs.ensures.value (omega (arith, ints)) c.if-shift-ge0.true)
    c.in_ok-power.ensures.1 c.checked_mul.ensures)

pub nonzero_rem-digits : goal.nonzero_rem-digits
nonzero_rem-digits c = omega (arith, ten_pos c.unsigned_abs.result, c.in_ok-power.ensures)

pub returns-then-digits-power-ne0 : goal.returns-then-digits-power-ne0
returns-then-digits-power-ne0 c =
    let a = raising c.args.decimals c.args.self in
    let b = lowering c.args.self in
    rw c.from-digits.ensures at (lowered_broken c.from-digits.result a b c.unsigned_abs.result 18446744073709551615 c.in_ok-power.power
    (shifted_down c.args.decimals c.unsigned_abs.result c.args.self.exponent (shift c.from.result c.from-2.result) c.unsigned_abs.ensures.value (omega (arith, ints)) c.if-shift-ge0.false)
    c.in_ok-power.ensures.1 c.if-digits-power-ne0.true)

pub returns : goal.returns
returns c =
    let a = raising c.args.decimals c.args.self in
    let b = lowering c.args.self in
    let fits : c.from-digits.result ≤ 18446744073709551615 = omega arith in
    lowered_units c.from-digits.result a b c.unsigned_abs.result 18446744073709551615 c.in_ok-power.power
    (shifted_down c.args.decimals c.unsigned_abs.result c.args.self.exponent (shift c.from.result c.from-2.result) c.unsigned_abs.ensures.value (omega (arith, ints)) c.if-shift-ge0.false)
    c.in_ok-power.ensures.1 fits c.if-digits-power-ne0.false
    ∙ ap (λ (d : ℕ). at_most 18446744073709551615 (fixed_point d a b)) c.from-digits.ensures
