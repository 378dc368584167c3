use Rattle.std.proofs.Common.{refl, ap, arith}
use Rattle.std.proofs.lemmas.List.{length_push}
use Rattle.std.proofs.lemmas.Result.{err_from_is_err_and}
use Rattle.opf.specs.Fields.{fields, runs}
use Rattle.opf.proofs.Drafts.{refused_line, taken_line}
use Rattle.opf.proofs.progress.Progress.take_data.Goals as goal

pub returns-in_err-take_line : goal.returns-in_err-take_line
returns-in_err-take_line c =
    λ d h.
    let p = err_from_is_err_and c.from_residual.result c.from_residual.ensures.1 in
    rw (p.1, p.2)
    (refused_line d (fields c.args.rest.now) (runs c.up_to_slash.result.now) c.args.self.now.place c.args.number c.args.self.now.draft _ h.next c.if-self-gt22.false h.gives (ap runs c.up_to_slash.ensures.value) c.in_err-take_line.ensures)

pub returns : goal.returns
returns c =
    λ d h.
    let r = taken_line d (fields c.args.rest.now) (runs c.up_to_slash.result.now) c.args.self.now.place c.args.number c.args.self.now.draft c.take_line.new.draft h.next c.if-self-gt22.false h.gives (ap runs c.up_to_slash.ensures.value) c.in_ok-take_line.ensures in
    (r.0, refl, record { next = omega (arith, length_push d (fields c.args.rest.now), h.next); gives = r.1 })
