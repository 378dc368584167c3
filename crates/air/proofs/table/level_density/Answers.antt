use Rattle.std.proofs.Common.{refl}
use Rattle.air.specs.Standard.{table}
use Rattle.air.specs.Entries.{level_bounds}
use Rattle.air.proofs.table.level_density.Goals as goal

pub returns : goal.returns
unfolding table
returns c = record { value = refl; bound = (level_bounds c.args.k c.requires).1 }
