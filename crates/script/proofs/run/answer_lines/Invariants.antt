use Rattle.sheet.specs.Sheets.{Keeps}
use Rattle.script.proofs.run.answer_lines.Given as goal

abbrev pub invariant-loop : goal.invariant-loop
invariant-loop g l = Keeps l.initial.sheet l.sheet
