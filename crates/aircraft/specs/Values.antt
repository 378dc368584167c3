-- The row of a configuration, and the fuel coefficients, in an aircraft record.
use Rattle.aircraft.specs.declared.words.Configuration.{Configuration}
use Rattle.aircraft.specs.declared.words.Configuration.TheVariants as flaps
use Rattle.aircraft.specs.declared.record.Engine.{Engine}
use Rattle.aircraft.specs.declared.record.Engine.TheVariants as engine
use Rattle.aircraft.specs.declared.record.Fuel.{Fuel}
use Rattle.aircraft.specs.declared.record.Row.{Row}
use Rattle.aircraft.specs.declared.record.Rows.{Rows}

abbrev pub row_of : Rows → Configuration → Row
row_of r flaps.Cruise = r.cruise
row_of r flaps.InitialClimb = r.initial
row_of r flaps.TakeOff = r.takeoff
row_of r flaps.Approach = r.approach
row_of r flaps.Landing = r.landing

abbrev pub fuel_of : Engine → Fuel
fuel_of (engine.Jet c) = c.fuel
fuel_of (engine.Turboprop c) = c.fuel
