use Rattle.flight.specs.declared.call.Call.TheVariants.{Jettison}
use Rattle.flight.proofs.Led.{one_more}
use Rattle.flight.proofs.flight.Flight.jettison.Goals as goal

pub invariant_of-self : goal.invariant_of-self
invariant_of-self g c = record { chained = one_more _ (Jettison c.args.grams) c.args.self.now.status _ c.args.self.now.chained c.jettison.ensures.left }
