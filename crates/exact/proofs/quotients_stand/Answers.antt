use Rattle.exact.proofs.Meaning.{undoes_product}
use Rattle.exact.proofs.quotients_stand.Goals as goal

pub returns : goal.returns
returns c = undoes_product
