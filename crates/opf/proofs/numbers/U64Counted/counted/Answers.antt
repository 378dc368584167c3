use Rattle.std.proofs.Common.{◌∙◌, inl, inr, arith}
use Rattle.opf.specs.Numbers.{natural_in}
use Rattle.opf.proofs.Counts.{natural_none, natural_out, natural_minus, natural_kept}
use Rattle.opf.proofs.numbers.U64Counted.counted.Goals as goal
use Rattle.opf.proofs.numbers.U64Counted.counted.Goals.{then-v-q-via-then-v-q, then-v-q-via-else-v-q+then-v-q-2, else-v-ne0-via-then-v-ne0+else-x, else-v-ne0-via-else-v-ne0}

pub returns-in_err-v : goal.returns-in_err-v
unfolding natural_in
returns-in_err-v c =
    c.from_residual.ensures ∙ natural_none c.args.q c.args.x.negative 18446744073709551615 _ (omega arith) c.in_err-v.ensures

pub returns-then-v-q : goal.returns-then-v-q
unfolding natural_in
returns-then-v-q c =
    natural_out c.args.x.negative c.in_ok-v.v 18446744073709551615 _ c.in_ok-v.ensures c.args.q
    (elim c.then-v-q.branch [ then-v-q-via-then-v-q w ↦ inl w.if-v-q.true | then-v-q-via-else-v-q+then-v-q-2 w ↦ inr w.if-v-q-2.true ])

pub returns-then-x : goal.returns-then-x
unfolding natural_in
returns-then-x c =
    natural_minus c.args.x.negative c.in_ok-v.v 18446744073709551615 _ c.in_ok-v.ensures c.args.q c.if-v-ne0.true c.if-x.true

pub returns : goal.returns
unfolding natural_in
returns c =
    natural_kept c.args.x.negative c.in_ok-v.v 18446744073709551615 _ c.in_ok-v.ensures c.args.q c.if-v-q.false c.if-v-q-2.false
    (elim c.else-v-ne0.branch [ else-v-ne0-via-then-v-ne0+else-x w ↦ inr w.if-x.false | else-v-ne0-via-else-v-ne0 w ↦ inl w.if-v-ne0.false ])
