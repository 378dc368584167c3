use Rattle.flight.specs.Runs.{started, then}
use Rattle.flight.proofs.hop.fly_hop.Goals as goal

pub returns : goal.returns
returns g c =
    c.reading.ensures.claims _ _ _ _ _ (then (then (then (started c.in_ok-flight.ensures) c.uplift-uplifted.ensures) c.leg-flown.ensures) c.touchdown-landed.ensures)
