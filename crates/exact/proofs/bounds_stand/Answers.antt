use Rattle.exact.proofs.Meaning.{by_order}
use Rattle.exact.proofs.bounds_stand.Goals as goal

pub returns : goal.returns
returns c = by_order
