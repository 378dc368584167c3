use Rattle.std.proofs.Common.{◌≡◌, [], ◌++◌, length, sym, refl, ap, ◌∙◌, arith}
use Rattle.opf.specs.Text.{lines}
use Rattle.opf.specs.Files.{own_fields}
use Rattle.opf.proofs.Files.{empty_is, goes_on, ends_well, ends_badly}
use Rattle.opf.proofs.LineEnds.{lines_few}
use Rattle.opf.proofs.file.read_lines.Goals as goal

pub loop-line-init : goal.loop-line-init
loop-line-init c =
    ([], record { next = refl; gives = c.empty.ensures ∙ empty_is }, refl, refl, omega (arith, lines_few c.args.text.now))

pub loop-line-preserved : goal.loop-line-preserved
loop-line-preserved c =
    let inv = c.loop-line.invariant in
    let st = c.in-Some.ensures.steps in
    let r = c.in_ok-take.ensures inv.0 inv.1 in
    let next = goes_on (lines c.args.text.now) (lines c.loop-line.lines.0.now) _ c.loop-line.number inv.0 c.in-Some.line.now (lines c.next.new.self.0.now) refl st inv.2 inv.3 r.0 (sym c.if-branch.false ∙ r.1) in
    (inv.0 ++ own_fields c.in-Some.line.now, r.2, next.0, next.1, omega (arith, inv.4, ap length st))

pub returns-then-only_line_ends : goal.returns-then-only_line_ends
returns-then-only_line_ends c =
    let inv = c.loop-line.invariant in
    let st = c.in-Some.ensures.steps in
    let r = c.in_ok-take.ensures inv.0 inv.1 in
    ends_well (lines c.args.text.now) (lines c.loop-line.lines.0.now) _ c.loop-line.number inv.0 c.in-Some.line.now (lines c.next.new.self.0.now) refl st inv.2 inv.3 r.0 c.take.new.self.draft (sym c.if-branch.true ∙ r.1) c.if-only_line_ends.ensures r.2.gives

pub returns-then-branch : goal.returns-then-branch
returns-then-branch c =
    let inv = c.loop-line.invariant in
    let st = c.in-Some.ensures.steps in
    let r = c.in_ok-take.ensures inv.0 inv.1 in
    ends_badly (lines c.args.text.now) (lines c.loop-line.lines.0.now) _ c.loop-line.number inv.0 c.in-Some.line.now (lines c.next.new.self.0.now) refl st inv.2 inv.3 r.0 (sym c.if-branch.true ∙ r.1) c.if-only_line_ends.ensures
