use Rattle.std.proofs.Common.{arith}
use Rattle.sheet.proofs.Named.{reserved_start}
use Rattle.sheet.proofs.forms.start_form.Goals as goal

pub returns-in_err-number-in-Some : goal.returns-in_err-number-in-Some
returns-in_err-number-in-Some c =
    let start = reserved_start c.args.text.now _ _ _ _ c.in_ok-zero_fuel.ensures (c.in-Some.ensures.byte (omega arith) (λ w o f. f)) in
    rw (start, ← c.in_err-number-in-Some.ensures.value) c.from_residual-in_err-number-in-Some.ensures

pub returns-in_err-number-in-Some-2 : goal.returns-in_err-number-in-Some-2
returns-in_err-number-in-Some-2 c =
    let start = reserved_start c.args.text.now _ _ _ _ c.in_ok-zero_fuel.ensures (c.in-Some.ensures.byte (omega arith) (λ w o f. f)) in
    rw (start, ← c.in_ok-number-in-Some.ensures.value, ← c.in_err-number-in-Some-2.ensures.value) c.from_residual-in_err-number-in-Some-2.ensures

pub returns-in_ok-number-in-Some-2 : goal.returns-in_ok-number-in-Some-2
returns-in_ok-number-in-Some-2 c =
    let start = reserved_start c.args.text.now _ _ _ _ c.in_ok-zero_fuel.ensures (c.in-Some.ensures.byte (omega arith) (λ w o f. f)) in
    rw (start, ← c.in_ok-number-in-Some.ensures.value, ← c.in_ok-number-in-Some-2.ensures.value)
