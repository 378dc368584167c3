use Rattle.std.proofs.Common.{◌≡◌, ◌+◌, ◌≤◌, List, [], ◌++◌, length}
use Rattle.opf.specs.Text.{lines}
use Rattle.opf.specs.DataLines.{Fields}
use Rattle.opf.specs.Files.{lines_fault, data_lines}
use Rattle.opf.specs.Progress.{HasRead}
use Rattle.opf.proofs.file.read_lines.Given as goal

abbrev pub invariant-loop-line : goal.invariant-loop-line
invariant-loop-line l =
    (d : List Fields)
    × HasRead l.progress d
    × (lines_fault l.number d (lines l.lines.0.now) ≡ lines_fault 1 [] (lines l.text))
    × (d ++ data_lines (lines l.lines.0.now) ≡ data_lines (lines l.text))
    × (l.number + length (lines l.lines.0.now) ≤ 32769)
