-- What the text of an aircraft file gives.
use Rattle.std.specs.Prelude.{◌≡◌, ℕ, List, Result, IfOk}
use Rattle.refusal.specs.declared.fault.Fault.{Fault}
use Rattle.aircraft.specs.declared.record.Aircraft.{Aircraft}
use Rattle.opf.specs.Text.{lines}
use Rattle.opf.specs.Files.{data_lines, read_file}
use Rattle.opf.specs.Records.{read_values}
use Rattle.opf.specs.Printed.{Printed}

-- its values or its first fault, and of an aircraft that the text prints each coefficient
pub record Gives (text : List ℕ) (r : Result Aircraft Fault) : Type 0 where
  pub values : read_values r ≡ read_file text
  pub printed : IfOk r (λ a. Printed (data_lines (lines text)) a)
