use Rattle.air.specs.Entries.{falling, within}
use Rattle.air.specs.Laws.{counted}
use Rattle.air.proofs.table.table_stands.Goals as goal

pub returns : goal.returns
returns c = record { falling = falling; within = within; counted = counted }
