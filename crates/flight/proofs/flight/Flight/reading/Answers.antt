use Rattle.leg.proofs.Near.{burn_near, burn_rises, burn_gains}
use Rattle.flight.specs.Runs.{setting}
use Rattle.flight.proofs.Chains.{keeps_to_the_book, some_book}
use Rattle.flight.proofs.flight.Flight.reading.Goals as goal

pub returns-clause-claims : goal.returns-clause-claims
returns-clause-claims g c =
    rw c.reading.ensures (keeps_to_the_book burn_near burn_rises burn_gains g.K.Kind.engine g.D.Day.air g.met.K.Kind.lawful g.met.D.Day.bounded c.args.self.now)

pub returns-clause-book : goal.returns-clause-book
returns-clause-book g c =
    let f = c.args.self.now in
    let w = setting g.K.Kind.engine g.D.Day.air f.aircraft f.kind f.day in
    rw c.reading.ensures (some_book burn_near burn_rises burn_gains w (g.met.K.Kind.lawful f.kind) (g.met.D.Day.bounded f.day) f.status f.chained)
