use Rattle.leg.proofs.Near.{burn_near, burn_rises, burn_gains}
use Rattle.leg.proofs.nearness.burns_stay_near.Goals as goal

pub returns : goal.returns
returns c = record { near = burn_near; rises = burn_rises; gains = burn_gains }
