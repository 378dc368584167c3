-- Which call each state takes, and the state that it leaves.
use Rattle.std.specs.Prelude.{Ok, Err, Result}
use Rattle.refusal.specs.declared.refusal.Refusal.{Refusal}
use Rattle.refusal.specs.declared.refusal.Refusal.TheVariants as refusal
use Rattle.leg.specs.declared.phase.Phase.TheVariants.{Climb, Cruise, Descent}
use Rattle.flight.specs.declared.status.State.{State}
use Rattle.flight.specs.declared.status.State.TheVariants.{Stand, Airborne}
use Rattle.flight.specs.declared.states.Transition.{Transition}
use Rattle.flight.specs.declared.states.Transition.TheVariants as transition

abbrev pub next_state : State → Transition → Result State Refusal
next_state Stand (transition.Leg Climb) = Ok Airborne
next_state Stand (transition.Leg Cruise) = Err refusal.State
next_state Stand (transition.Leg Descent) = Err refusal.State
next_state Stand transition.Uplift = Ok Stand
next_state Stand transition.Jettison = Err refusal.State
next_state Stand transition.Touchdown = Err refusal.State
next_state Airborne (transition.Leg Climb) = Ok Airborne
next_state Airborne (transition.Leg Cruise) = Ok Airborne
next_state Airborne (transition.Leg Descent) = Ok Airborne
next_state Airborne transition.Uplift = Err refusal.State
next_state Airborne transition.Jettison = Ok Airborne
next_state Airborne transition.Touchdown = Ok Stand
