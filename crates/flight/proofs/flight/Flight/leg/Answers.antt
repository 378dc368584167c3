use Rattle.flight.specs.declared.call.Call.TheVariants.{Leg}
use Rattle.flight.proofs.Led.{one_more}
use Rattle.flight.proofs.flight.Flight.leg.Goals as goal

pub invariant_of-self : goal.invariant_of-self
invariant_of-self g c = record { chained = one_more _ (Leg c.args.phase c.args.figures) c.args.self.now.status _ c.args.self.now.chained c.leg.ensures.left }
