use Rattle.std.proofs.Common.{sym, ap, ◌∙◌}
use Rattle.std.proofs.lemmas.Result.{err_from_is_err_and}
use Rattle.opf.specs.Fields.{field}
use Rattle.opf.specs.Lines.{line_fields}
use Rattle.opf.specs.Numbers.{number_of}
use Rattle.opf.specs.DataLines.{counted_fault, counted}
use Rattle.opf.proofs.Readings.{without_form, with_form}
use Rattle.opf.proofs.line.DataLine.count.Goals as goal

pub returns-in_err-x : goal.returns-in_err-x
unfolding counted_fault
returns-in_err-x g c =
    let o = number_of (field (line_fields c.args.self.now) c.args.k) in
    let p = err_from_is_err_and c.from_residual.result c.from_residual.ensures.1 in
    rw (p.1, p.2)
    (without_form c.args.self.now.number c.args.k (g.T.Counted.reads c.args.q) g.T.Counted.none o c.read.result _ c.in_err-x.ensures.value
    (c.read.ensures ∙ ap number_of c.field.ensures))

pub returns : goal.returns
unfolding counted_fault counted
returns g c =
    let o = number_of (field (line_fields c.args.self.now) c.args.k) in
    with_form c.args.self.now.number c.args.k (g.T.Counted.reads c.args.q) g.T.Counted.none o c.in_ok-x.x c.counted.result c.ok_or-2.result (sym c.in_ok-x.ensures.ok_part ∙ c.read.ensures ∙ ap number_of c.field.ensures) c.counted.ensures c.ok_or-2.ensures.value
