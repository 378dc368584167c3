-- How far the reading of a file has come.
use Rattle.std.specs.Prelude.{◌≡◌, ◌+◌, List, length, Some, None, Ok, Err, Option, Result}
use Rattle.refusal.specs.declared.fault.Fault.{Fault}
use Rattle.opf.specs.declared.progress.Progress.{Progress}
use Rattle.opf.specs.DataLines.{Fields}
use Rattle.opf.specs.Files.{draft_of}

-- these data lines are read
pub record HasRead (p : Progress) (data_lines : List Fields) : Type 0 where
  pub next : length data_lines + 1 ≡ p.place
  pub gives : p.draft ≡ draft_of data_lines

-- a line is judged, and read unless it has a fault
abbrev pub ReadsLine : {X : Type 0} → Result X Fault → Option Fault → X → Progress → List Fields → Type 0
ReadsLine (Ok b) o e p d = (o ≡ None) × (b ≡ e) × HasRead p d
ReadsLine (Err f) o e p d = o ≡ Some f
