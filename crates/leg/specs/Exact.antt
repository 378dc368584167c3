-- The exact leg: the rules of a leg with no rounding anywhere, at an exact mass, with the day's pair and the kind's exact values.
-- The configuration is given; what has no rounding in it is the leg's own.
use Rattle.std.specs.Prelude.{ℕ, ◌*◌, ◌^◌, cond, ℤ}
use Rattle.exact.specs.Rational.{ℚ, nat, int, ◌+ℚ◌, ◌-ℚ◌, ◌*ℚ◌, ◌÷ℚ◌, minℚ, maxℚ}
use Rattle.aircraft.specs.declared.record.Aircraft.{Aircraft}
use Rattle.aircraft.specs.declared.record.Temperature.{Temperature}
use Rattle.aircraft.specs.declared.words.Configuration.{Configuration}
use Rattle.air.specs.Day.{Air}
use Rattle.engine.specs.Meaning.{KindMeaning}
use Rattle.leg.specs.declared.phase.Phase.{Phase}
use Rattle.leg.specs.declared.phase.Phase.TheVariants.{Climb, Cruise, Descent}
use Rattle.leg.specs.declared.figures.Figures.{Figures}
use Rattle.leg.specs.Configurations.{drag_pair, descent_factor, needs_nominal}
use Rattle.leg.specs.Rules.{greatest_loss, warming}
use Rattle.leg.specs.Legs.{density_at, deviation_at}

unfoldable pub exact_pressure : (density speed : ℕ) → ℚ
exact_pressure density v = nat (density * (v * v) * 214369) ÷ℚ nat 16200000

unfoldable pub exact_force : (pressure : ℚ) (wing : ℕ) → ℚ
exact_force q s = q *ℚ nat s ÷ℚ nat (10 ^ 6)

-- of a mass in mg
unfoldable pub exact_weight : (mass : ℚ) → ℚ
exact_weight mass = mass ÷ℚ nat 1000 *ℚ nat 980665 ÷ℚ nat (10 ^ 6)

unfoldable pub exact_parasitic : (cd0 : ℕ) (force : ℚ) → ℚ
exact_parasitic cd0 q = nat cd0 *ℚ q ÷ℚ nat (10 ^ 8)

unfoldable pub exact_induced : (cd2 : ℕ) (weight force : ℚ) → ℚ
exact_induced cd2 w q = nat cd2 *ℚ (nat 10 *ℚ (w *ℚ w) ÷ℚ q) ÷ℚ nat (10 ^ 7)

unfoldable pub exact_drag_of : ℕ × ℕ → (weight force : ℚ) → ℚ
exact_drag_of pair w q = exact_parasitic pair.0 q +ℚ exact_induced pair.1 w q

unfoldable pub exact_temperature : Temperature → ℤ → ℚ
exact_temperature t deviation = maxℚ (nat 0) (minℚ (nat greatest_loss) (int (warming t deviation) ÷ℚ nat 1000))

unfoldable pub exact_available_thrust : (standard factor : ℚ) → ℚ
exact_available_thrust n e = n *ℚ (nat (10 ^ 9) -ℚ e) ÷ℚ nat (10 ^ 9)

unfoldable pub exact_cruise_cap : (available : ℚ) → ℚ
exact_cruise_cap n = nat 95 *ℚ n ÷ℚ nat 100

unfoldable pub exact_thrust_used : Phase → (drag available : ℚ) (factor : ℕ) → ℚ
exact_thrust_used Climb d n factor = n
exact_thrust_used Cruise d n factor = minℚ d (exact_cruise_cap n)
exact_thrust_used Descent d n factor = nat factor *ℚ n ÷ℚ nat (10 ^ 8)

unfoldable pub exact_flow_used : Phase → Configuration → (factor : ℕ) (nominal idle : ℚ) → ℚ
exact_flow_used Climb c factor nominal idle = nominal
exact_flow_used Cruise c factor nominal idle = nominal *ℚ nat factor ÷ℚ nat (10 ^ 5)
exact_flow_used Descent c factor nominal idle = cond (needs_nominal Descent c) (maxℚ nominal idle) idle

unfoldable pub exact_burned : (flow : ℚ) (seconds : ℕ) → ℚ
exact_burned flow seconds = flow *ℚ nat seconds ÷ℚ nat 60

unfoldable pub exact_leg_force : Aircraft → Air → Figures → ℚ
exact_leg_force a air f = exact_force (exact_pressure (density_at air f) f.speed) a.wing

unfoldable pub exact_drag : Aircraft → Air → ℕ × ℕ → Figures → (mass : ℚ) → ℚ
exact_drag a air pair f mass = exact_drag_of pair (exact_weight mass) (exact_leg_force a air f)

unfoldable pub exact_available : Aircraft → KindMeaning → Air → Figures → ℚ
exact_available a k air f = exact_available_thrust (k.exact_thrust f.altitude f.speed) (exact_temperature a.temperature (deviation_at air f))

unfoldable pub exact_thrust : Aircraft → KindMeaning → Air → Phase → Configuration → ℕ × ℕ → Figures → (mass : ℚ) → ℚ
exact_thrust a k air p c pair f mass = exact_thrust_used p (exact_drag a air pair f mass) (exact_available a k air f) (descent_factor a.descent c f.altitude)

-- the flow at a thrust
unfoldable pub exact_flow : Aircraft → KindMeaning → Phase → Configuration → Figures → (thrust : ℚ) → ℚ
exact_flow a k p c f thrust = exact_flow_used p c a.cruise (k.exact_nominal f.speed thrust) (k.exact_idle f.altitude)

-- the burn in mg of a leg in a configuration, over any drag pair
unfoldable pub exact_burn_with : Aircraft → KindMeaning → Air → Phase → Configuration → ℕ × ℕ → Figures → (mass : ℚ) → ℚ
exact_burn_with a k air p c pair f mass = exact_burned (exact_flow a k p c f (exact_thrust a k air p c pair f mass)) f.seconds

-- over the configuration's own
abbrev pub exact_burn : Aircraft → KindMeaning → Air → Phase → Configuration → Figures → (mass : ℚ) → ℚ
exact_burn a k air p c f mass = exact_burn_with a k air p c (drag_pair a c) f mass
