use Rattle.std.proofs.Common.{sym, []}
use Rattle.flight.specs.Chain.{begins}
use Rattle.flight.proofs.flight.Flight.start.Goals as goal

pub invariant_of-result : goal.invariant_of-result
invariant_of-result g c = record { chained = ∣ record { start = c.args.start; events = []; chain = begins (sym c.in_ok-status.ensures) } ∣₁ }
