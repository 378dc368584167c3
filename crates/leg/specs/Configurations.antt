-- What a leg's rules choose without working anything out: the configuration, its drag pair, its descent factor, and where nominal flow is needed.
--   slow                  below 1.3 stall speeds and 10 kt
--   configuration_of      the configuration of a leg
--   drag_pair             CD0, the gear's included, and CD2, in 10⁻⁸
--   descent_factor        the share of thrust in descent, in 10⁻⁸
--   needs_nominal         whether the leg's flow goes by thrust
use Rattle.std.specs.Prelude.{ℕ, ◌+◌, ◌*◌, Bool, true, false, cond, ◌&&◌, nat_le, nat_lt}
use Rattle.aircraft.specs.declared.record.Aircraft.{Aircraft}
use Rattle.aircraft.specs.declared.record.Descent.{Descent}
use Rattle.aircraft.specs.declared.record.Rows.{Rows}
use Rattle.aircraft.specs.declared.words.Configuration.{Configuration}
use Rattle.aircraft.specs.declared.words.Configuration.TheVariants as flaps
use Rattle.aircraft.specs.Values.{row_of}
use Rattle.leg.specs.declared.phase.Phase.{Phase}
use Rattle.leg.specs.declared.phase.Phase.TheVariants as phase
use Rattle.leg.specs.declared.figures.Figures.{Figures}

-- the calibrated airspeed counts in kt, the stall speed in 0.001 kt
abbrev pub slow : (calibrated stall : ℕ) → Bool
slow c stall = nat_lt (10000 * c) (13 * stall + 100000)

abbrev pub climb_configuration : ℕ → Configuration
climb_configuration h = cond (nat_le h 400) flaps.TakeOff (cond (nat_le h 2000) flaps.InitialClimb flaps.Cruise)

abbrev pub descent_configuration : Rows → (altitude calibrated : ℕ) → Configuration
descent_configuration rows h c =
    cond (nat_le 8000 h) flaps.Cruise
    (cond (slow c rows.cruise.stall)
    (cond (nat_lt h 3000 && slow c rows.approach.stall) flaps.Landing flaps.Approach)
    flaps.Cruise)

abbrev pub configuration_of : Aircraft → Phase → Figures → Configuration
configuration_of a phase.Climb f = climb_configuration f.altitude
configuration_of a phase.Cruise f = flaps.Cruise
configuration_of a phase.Descent f = descent_configuration a.rows f.altitude f.calibrated

-- the gear is down in LD alone
abbrev pub gear_drag : Aircraft → Configuration → ℕ
gear_drag a flaps.Cruise = 0
gear_drag a flaps.InitialClimb = 0
gear_drag a flaps.TakeOff = 0
gear_drag a flaps.Approach = 0
gear_drag a flaps.Landing = a.gear

abbrev pub drag_pair : Aircraft → Configuration → ℕ × ℕ
drag_pair a c = ((row_of a.rows c).cd0 + gear_drag a c, (row_of a.rows c).cd2)

-- clean: high above the descent level, else low
abbrev pub clean_factor : Descent → (altitude : ℕ) → ℕ
clean_factor d h = cond (nat_lt d.level h) d.high d.low

-- no descent is flown in IC or TO; they count as clean
abbrev pub descent_factor : Descent → Configuration → (altitude : ℕ) → ℕ
descent_factor d flaps.Cruise h = clean_factor d h
descent_factor d flaps.InitialClimb h = clean_factor d h
descent_factor d flaps.TakeOff h = clean_factor d h
descent_factor d flaps.Approach h = d.approach
descent_factor d flaps.Landing h = d.landing

-- a clean descent is flown at idle
abbrev pub needs_nominal : Phase → Configuration → Bool
needs_nominal phase.Climb c = true
needs_nominal phase.Cruise c = true
needs_nominal phase.Descent flaps.Cruise = false
needs_nominal phase.Descent flaps.InitialClimb = false
needs_nominal phase.Descent flaps.TakeOff = false
needs_nominal phase.Descent flaps.Approach = true
needs_nominal phase.Descent flaps.Landing = true
