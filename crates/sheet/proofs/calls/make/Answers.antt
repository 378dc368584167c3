use Rattle.std.proofs.Common.{rules}
use Rattle.flight.specs.declared.call.Call.TheVariants.{Leg, Uplift, Jettison, Touchdown}
use Rattle.sheet.proofs.Called.{call_made}
use Rattle.sheet.proofs.calls.make.Goals as goal

pub returns-in-Leg : goal.returns-in-Leg
returns-in-Leg c = rw c.in-Leg.is (call_made (Leg c.in-Leg.phase c.in-Leg.figures) _ _ _ _ _ c.leg-flown.ensures c.reading-reading.ensures.answer c.reading-reading.ensures.claims _ (λ y z h. search rules) c.map.ensures.cases)

pub returns-in-Uplift : goal.returns-in-Uplift
returns-in-Uplift c = rw c.in-Uplift.is (call_made (Uplift c.in-Uplift.grams) _ _ _ _ _ c.uplift-done.ensures c.reading-reading-in-Uplift.ensures.answer c.reading-reading-in-Uplift.ensures.claims _ (λ y z h. search rules) c.map-in-Uplift.ensures.cases)

pub returns-in-Jettison : goal.returns-in-Jettison
returns-in-Jettison c = rw c.in-Jettison.is (call_made (Jettison c.in-Jettison.grams) _ _ _ _ _ c.jettison-done.ensures c.reading-reading-in-Jettison.ensures.answer c.reading-reading-in-Jettison.ensures.claims _ (λ y z h. search rules) c.map-in-Jettison.ensures.cases)

pub returns-in-Touchdown : goal.returns-in-Touchdown
returns-in-Touchdown c = rw c.in-Touchdown.is (call_made Touchdown _ _ _ _ _ c.touchdown-done.ensures c.reading-reading-in-Touchdown.ensures.answer c.reading-reading-in-Touchdown.ensures.claims _ (λ y z h. search rules) c.map-in-Touchdown.ensures.cases)
