-- The rules of a leg in whole numbers. `/` and `int_div_euclid` round down, toward minus infinity.
--   dynamic_pressure wing_force weight lifts     what carries the aircraft
--   drag_of                                      drag for any drag pair
--   temperature_factor available_thrust          what warm air leaves of thrust
--   cruise_cap thrust_used limited               the thrust that a phase uses
--   flow_used burned                             the fuel that it takes
use Rattle.std.specs.Prelude.{ℕ, ◌+◌, ◌-◌, ◌*◌, ◌/◌, ◌^◌, min, max, Bool, false, cond, ℤ, pos, negsuc, ◌-ℤ◌, ◌*ℤ◌, nat_le, nat_lt}
use Rattle.std.specs.Int.{int_div_euclid}
use Rattle.aircraft.specs.declared.record.Temperature.{Temperature}
use Rattle.aircraft.specs.declared.words.Configuration.{Configuration}
use Rattle.leg.specs.declared.phase.Phase.{Phase}
use Rattle.leg.specs.declared.phase.Phase.TheVariants.{Climb, Cruise, Descent}
use Rattle.leg.specs.Configurations.{needs_nominal}

-- in 10⁻⁶ Pa, from the density in 10⁻⁵ kg/m³ and the true airspeed in 0.1 kt
abbrev pub dynamic_pressure : (density speed : ℕ) → ℕ
dynamic_pressure density v = density * (v * v) * 214369 / 16200000

-- dynamic pressure on the wing area, in mN
abbrev pub wing_force : (pressure wing : ℕ) → ℕ
wing_force q s = q * s / 10 ^ 6

-- in 10 mN, from the mass in mg, of which whole grams count
abbrev pub weight : (mass : ℕ) → ℕ
weight mass = mass / 1000 * 980665 / 10 ^ 6

-- no wing carries more than three times its force
abbrev pub lifts : (weight force : ℕ) → Bool
lifts w q = nat_le (10 * w) (3 * q)

abbrev pub parasitic_drag : (cd0 force : ℕ) → ℕ
parasitic_drag cd0 q = cd0 * q / 10 ^ 8

abbrev pub induced_drag : (cd2 weight force : ℕ) → ℕ
induced_drag cd2 w q = cd2 * (10 * (w * w) / q) / 10 ^ 7

-- in mN
abbrev pub drag_of : ℕ × ℕ → (weight force : ℕ) → ℕ
drag_of pair w q = parasitic_drag pair.0 q + induced_drag pair.1 w q

-- the most that warm air takes of thrust, in 10⁻⁹
abbrev pub greatest_loss : ℕ
greatest_loss = 4 * 10 ^ 8

-- CTc5 × (deviation − CTc4) in 10⁻¹²; the deviation counts in 0.01 K
abbrev pub warming : Temperature → ℤ → ℤ
warming t deviation = pos t.ctc5 *ℤ ((pos 100 *ℤ deviation) -ℤ t.ctc4)

-- a loss held within 0 and the greatest
abbrev pub held_loss : ℤ → ℕ
held_loss (pos n) = min n greatest_loss
held_loss (negsuc n) = 0

-- what warm air takes of thrust, in 10⁻⁹
abbrev pub temperature_factor : Temperature → ℤ → ℕ
temperature_factor t deviation = held_loss (int_div_euclid (warming t deviation) (pos 1000))

-- in mN, from the thrust on a standard day
abbrev pub available_thrust : (standard factor : ℕ) → ℕ
available_thrust n e = n * (10 ^ 9 - e) / 10 ^ 9

-- the most thrust that cruise uses, of what is available
abbrev pub cruise_cap : (available : ℕ) → ℕ
cruise_cap n = 95 * n / 100

-- of what is available, where `factor` is the descent factor
abbrev pub thrust_used : Phase → (drag available factor : ℕ) → ℕ
thrust_used Climb d n factor = n
thrust_used Cruise d n factor = min d (cruise_cap n)
thrust_used Descent d n factor = factor * n / 10 ^ 8

abbrev pub limited : Phase → (drag available : ℕ) → Bool
limited Climb d n = false
limited Cruise d n = nat_lt (cruise_cap n) d
limited Descent d n = false

-- a nominal flow by the cruise factor in 10⁻⁵
abbrev pub cruise_flow : (nominal factor : ℕ) → ℕ
cruise_flow nominal factor = nominal * factor / 10 ^ 5

-- in mg/min, where `factor` is the cruise factor
abbrev pub flow_used : Phase → Configuration → (factor nominal idle : ℕ) → ℕ
flow_used Climb c factor nominal idle = nominal
flow_used Cruise c factor nominal idle = cruise_flow nominal factor
flow_used Descent c factor nominal idle = cond (needs_nominal Descent c) (max nominal idle) idle

-- in mg
abbrev pub burned : (flow seconds : ℕ) → ℕ
burned flow seconds = flow * seconds / 60
