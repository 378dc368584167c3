use Rattle.std.proofs.Common.{ℕ, List, ◌∷◌, length, sym, ap, ◌∙◌, arith, rules}
use Rattle.opf.specs.Text.{lines}
use Rattle.opf.proofs.LineEnds.{line_cut, last_line}
use Rattle.opf.proofs.lines.LinesIterator.next.Goals as goal

pub returns-in-Some-clause-steps : goal.returns-in-Some-clause-steps
returns-in-Some-clause-steps c =
    line_cut c.args.self.now.0.now c.in-Some.line.now c.in-Some.rest.now c.in-Some.ensures ∙ ap (λ (x : List ℕ). x ∷ lines c.in-Some.rest.now) (sym c.without_cr.ensures)

pub returns-in-Some-clause-goes : goal.returns-in-Some-clause-goes
returns-in-Some-clause-goes c =
    let e = ap length (line_cut c.args.self.now.0.now c.in-Some.line.now c.in-Some.rest.now c.in-Some.ensures) in
    record { on = λ _. (search rules, search rules, omega (arith, e)); keeps = search rules; rests = search rules }

pub returns-clause-steps : goal.returns-clause-steps
returns-clause-steps c =
    rw (c.then_some.ensures, c.is_empty.ensures, c.take-last.ensures.value) (last_line c.args.self.now.0 c.take-last.new.dest.now c.in_default.ensures c.take-last.ensures.after)
