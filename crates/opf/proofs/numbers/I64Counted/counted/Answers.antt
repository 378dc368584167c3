use Rattle.std.proofs.Common.{◌≡◌, Some, ◌≤ℤ◌, w64, to_z, of_z, ap, ◌∙◌, inl, inr, arith}
use Rattle.std.specs.Int.{w128}
use Rattle.std.proofs.lemmas.Int.{ints}
use Rattle.opf.specs.Numbers.{signed_value, signed_in}
use Rattle.opf.proofs.Counts.{signed_none, signed_out, signed_kept}
use Rattle.opf.proofs.numbers.I64Counted.counted.Goals as goal
use Rattle.opf.proofs.numbers.I64Counted.counted.Goals.{then-x, else-x, then-z-from-via-then-z-from, then-z-from-via-else-z-from+then-z-from-2}

pub returns-in_err-units : goal.returns-in_err-units
unfolding signed_in
returns-in_err-units c =
    c.from_residual.ensures ∙ signed_none c.args.q c.args.x.negative 18446744073709551615 _ (omega (arith, ints)) (omega (arith, ints)) c.in_err-units.ensures

pub returns-then-z-from : goal.returns-then-z-from
unfolding signed_in
returns-then-z-from c =
    let s : c.if-x.z ≡ signed_value c.args.x.negative c.in_ok-units.field-0 = elim c.if-x.branch [ then-x w ↦ rw w.if-x.true (omega (arith, ints)) | else-x w ↦ rw w.if-x.false (omega (arith, ints)) ] in
    signed_out c.args.x.negative c.in_ok-units.field-0 18446744073709551615 _ c.in_ok-units.ensures c.args.q c.if-x.z s
    (elim c.then-z-from.branch [ then-z-from-via-then-z-from w ↦ inl (grind (arith, ints)) | then-z-from-via-else-z-from+then-z-from-2 w ↦ inr (grind (arith, ints)) ])

pub returns : goal.returns
unfolding signed_in
returns c =
    let s : c.if-x.z ≡ signed_value c.args.x.negative c.in_ok-units.field-0 = elim c.if-x.branch [ then-x w ↦ rw w.if-x.true (omega (arith, ints)) | else-x w ↦ rw w.if-x.false (omega (arith, ints)) ] in
    let low : c.args.q.low ≤ℤ c.if-x.z = grind (arith, ints) in
    let high : c.if-x.z ≤ℤ c.args.q.high = grind (arith, ints) in
    let same : to_z w64 (of_z w64 (to_z w128 c.if-x.z-bits)) ≡ c.if-x.z = omega (arith, ints) in
    ap Some same ∙ signed_kept c.args.x.negative c.in_ok-units.field-0 18446744073709551615 _ c.in_ok-units.ensures c.args.q c.if-x.z s low high
