use Rattle.exact.proofs.Meaning.{as_fractions}
use Rattle.exact.proofs.fractions_stand.Goals as goal

pub returns : goal.returns
returns c = as_fractions
