-- A leg in whole numbers: each figure by its rule, when the leg is refused, and what it answers.
use Rattle.std.specs.Prelude.{ℕ, Bool, cond, ◌&&◌, ℤ, Ok, Err, Result}
use Rattle.refusal.specs.declared.refusal.Refusal.{Refusal}
use Rattle.refusal.specs.declared.refusal.Refusal.TheVariants.{Lift, Flow}
use Rattle.aircraft.specs.declared.record.Aircraft.{Aircraft}
use Rattle.aircraft.specs.declared.words.Configuration.{Configuration}
use Rattle.air.specs.Day.{Air}
use Rattle.engine.specs.Meaning.{KindMeaning}
use Rattle.leg.specs.declared.phase.Phase.{Phase}
use Rattle.leg.specs.declared.flown.Flown.{Flown}
use Rattle.leg.specs.declared.figures.Figures.{Figures}
use Rattle.leg.specs.Configurations.{configuration_of, drag_pair, descent_factor, needs_nominal}
use Rattle.leg.specs.Rules.{dynamic_pressure, wing_force, weight, lifts, drag_of, temperature_factor, available_thrust, thrust_used, limited, flow_used, burned}

-- the pair of the day at the leg's altitude
abbrev pub density_at : Air → Figures → ℕ
density_at air f = (air.pair f.altitude).0

abbrev pub deviation_at : Air → Figures → ℤ
deviation_at air f = (air.pair f.altitude).1

abbrev pub leg_force : Aircraft → Air → Figures → ℕ
leg_force a air f = wing_force (dynamic_pressure (density_at air f) f.speed) a.wing

abbrev pub leg_lifts : Aircraft → Air → Figures → (mass : ℕ) → Bool
leg_lifts a air f mass = lifts (weight mass) (leg_force a air f)

abbrev pub leg_drag : Aircraft → Air → ℕ × ℕ → Figures → (mass : ℕ) → ℕ
leg_drag a air pair f mass = drag_of pair (weight mass) (leg_force a air f)

abbrev pub leg_available : Aircraft → KindMeaning → Air → Figures → ℕ
leg_available a k air f = available_thrust (k.thrust f.altitude f.speed) (temperature_factor a.temperature (deviation_at air f))

-- the flow at a thrust
abbrev pub leg_flow : Aircraft → KindMeaning → Phase → Configuration → Figures → (thrust : ℕ) → ℕ
leg_flow a k p c f thrust = flow_used p c a.cruise (k.nominal f.speed thrust) (k.idle f.altitude)

abbrev pub leg_refuses_flow : KindMeaning → Phase → Configuration → Figures → Bool
leg_refuses_flow k p c f = needs_nominal p c && k.refuses f.speed

abbrev pub flow_answer : Aircraft → KindMeaning → Phase → Configuration → Figures → (thrust : ℕ) → Result ℕ Refusal
flow_answer a k p c f thrust = cond (leg_refuses_flow k p c f) (Err Flow) (Ok (leg_flow a k p c f thrust))

-- what a leg answers with this drag, available thrust and thrust used
abbrev pub flown_at : Aircraft → KindMeaning → Phase → Configuration → Figures → (drag available thrust : ℕ) → Flown
flown_at a k p c f d n thrust =
    record {
      configuration = c;
      thrust = thrust;
      drag = d;
      flow = leg_flow a k p c f thrust;
      burn = burned (leg_flow a k p c f thrust) f.seconds;
      limited = limited p d n;
    }

abbrev pub flown_by : Aircraft → KindMeaning → Phase → Configuration → Figures → (drag available : ℕ) → Flown
flown_by a k p c f d n = flown_at a k p c f d n (thrust_used p d n (descent_factor a.descent c f.altitude))

abbrev pub powered_answer : Aircraft → KindMeaning → Phase → Configuration → Figures → (drag available : ℕ) → Result Flown Refusal
powered_answer a k p c f d n = cond (leg_refuses_flow k p c f) (Err Flow) (Ok (flown_by a k p c f d n))

-- a leg in a configuration, over any drag pair
abbrev pub flown_with : Aircraft → KindMeaning → Air → Phase → Configuration → ℕ × ℕ → Figures → (mass : ℕ) → Flown
flown_with a k air p c pair f mass = flown_by a k p c f (leg_drag a air pair f mass) (leg_available a k air f)

-- a leg in a configuration at a mass in mg: refused where its wing does not lift it, then where its flow is refused
abbrev pub answer_in : Configuration → Aircraft → KindMeaning → Air → Phase → Figures → (mass : ℕ) → Result Flown Refusal
answer_in c a k air p f mass =
    cond (leg_lifts a air f mass) (powered_answer a k p c f (leg_drag a air (drag_pair a c) f mass) (leg_available a k air f)) (Err Lift)

abbrev pub leg_answer : Aircraft → KindMeaning → Air → Phase → Figures → (mass : ℕ) → Result Flown Refusal
leg_answer a k air p f mass = answer_in (configuration_of a p f) a k air p f mass
