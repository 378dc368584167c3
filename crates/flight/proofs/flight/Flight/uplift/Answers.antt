use Rattle.flight.specs.declared.call.Call.TheVariants.{Uplift}
use Rattle.flight.proofs.Led.{one_more}
use Rattle.flight.proofs.flight.Flight.uplift.Goals as goal

pub invariant_of-self : goal.invariant_of-self
invariant_of-self g c = record { chained = one_more _ (Uplift c.args.grams) c.args.self.now.status _ c.args.self.now.chained c.uplift.ensures.left }
