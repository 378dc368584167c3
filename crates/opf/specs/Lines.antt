-- The fields of a data line as the code holds it.
use Rattle.std.specs.Prelude.{ℕ, List}
use Rattle.opf.specs.declared.line.DataLine.{DataLine}
use Rattle.opf.specs.Fields.{runs}

abbrev pub line_fields : DataLine → List (List ℕ)
line_fields l = runs l.text.now

abbrev pub done : Unit {0}
done = tt
