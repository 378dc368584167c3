use Rattle.std.proofs.Common.{◌≡◌, ◌-◌, length, get_or, sym, ◌∙◌, arith}
use Rattle.std.proofs.lemmas.List.{at_drop_all}
use Rattle.text.specs.Digits.{digits_of}
use Rattle.text.proofs.Written.{digits_yes, digits_no, more_digits, fits_more, nineteen_at_most, digit_low}
use Rattle.text.proofs.digits.digits.Goals as goal

pub overflow_mul-n : goal.overflow_mul-n
overflow_mul-n c = omega (arith, fits_more c.loop-b.n 0 c.loop-b.b-index (omega arith) c.loop-b.invariant.1 (omega arith))

pub overflow_add-n : goal.overflow_add-n
overflow_add-n c =
    let low = digit_low (get_or c.args.s.now c.loop-b.b-index 0) (sym c.if-not-is_ascii_digit.ensures.value) in
    omega (arith, fits_more c.loop-b.n c.from.result c.loop-b.b-index (omega arith) c.loop-b.invariant.1 (omega (arith, low)))

pub loop-b-preserved : goal.loop-b-preserved
loop-b-preserved c =
    let n = c.loop-b.n in
    let i = c.loop-b.b-index in
    let s = c.args.s.now in
    let is = sym c.if-not-is_ascii_digit.ensures.value in
    rw c.from.ensures (
      digits_yes n i s c.loop-b-test.true is ∙ c.loop-b.invariant.0,
      more_digits n (get_or s i 0 - 48) i c.loop-b.invariant.1 (digit_low (get_or s i 0) is),
    )

pub returns-then-not-is_ascii_digit-clause-value : goal.returns-then-not-is_ascii_digit-clause-value
returns-then-not-is_ascii_digit-clause-value c =
    sym (nineteen_at_most c.args.s.now c.if-s-gt19.false ∙ sym c.loop-b.invariant.0 ∙ digits_no c.loop-b.n c.loop-b.b-index c.args.s.now c.loop-b-test.true (sym c.if-not-is_ascii_digit.ensures.value))

pub returns : goal.returns
returns c =
    let s = c.args.s.now in
    let ended : c.loop-b.b-index ≡ length s = omega arith in
    record {
      value = sym (at_drop_all (digits_of c.loop-b.n) s c.loop-b.b-index c.loop-b-test.false) ∙ c.loop-b.invariant.0 ∙ sym (nineteen_at_most s c.if-s-gt19.false);
      bound = rw ended at c.loop-b.invariant.1;
    }
