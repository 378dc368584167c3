-- The values of an aircraft record as a plain record, and the ranges that a plain record keeps once it is read.
use Rattle.std.specs.Prelude.{◌≡◌, ◌≤◌, List, [], ◌∷◌, pos, negsuc, ◌≤ℤ◌, Some, None, Ok, Err, Option, Result, IfSome, slice_index_or}
use Rattle.refusal.specs.declared.fault.Fault.{Fault}
use Rattle.aircraft.specs.declared.words.EngineType.{EngineType}
use Rattle.aircraft.specs.declared.words.EngineType.TheVariants as engine
use Rattle.aircraft.specs.declared.record.Aircraft.{Aircraft}
use Rattle.aircraft.specs.declared.record.Engine.{Engine}
use Rattle.aircraft.specs.declared.record.Engine.TheVariants as kind
use Rattle.aircraft.specs.declared.record.Fuel.{Fuel}
use Rattle.aircraft.specs.declared.record.Masses.{Masses}
use Rattle.aircraft.specs.declared.record.Descent.{Descent}
use Rattle.aircraft.specs.declared.record.Temperature.{Temperature}
use Rattle.aircraft.specs.declared.record.Row.{Row}
use Rattle.aircraft.specs.declared.record.Rows.{Rows}
use Rattle.aircraft.specs.declared.draft.Draft.{Draft}
use Rattle.aircraft.specs.declared.draft.DraftMasses.{DraftMasses}
use Rattle.aircraft.specs.declared.draft.DraftRow.{DraftRow}
use Rattle.aircraft.specs.declared.draft.DraftThrust.{DraftThrust}
use Rattle.aircraft.specs.declared.draft.DraftDescent.{DraftDescent}
use Rattle.aircraft.specs.declared.draft.DraftConsumption.{DraftConsumption}
use Rattle.aircraft.specs.declared.draft.DraftIdle.{DraftIdle}
use Rattle.aircraft.specs.Values.{fuel_of}
use Rattle.aircraft.specs.Words.{engine_type}

abbrev pub masses_values : Masses → DraftMasses
masses_values m = record { reference = m.reference; minimum = m.minimum; maximum = m.maximum }

abbrev pub row_values : Row → DraftRow
row_values r = record { stall = r.stall; cd0 = r.cd0; cd2 = r.cd2 }

abbrev pub rows_values : Rows → List (Option DraftRow)
rows_values r =
    Some (row_values r.cruise)
    ∷ Some (row_values r.initial)
    ∷ Some (row_values r.takeoff)
    ∷ Some (row_values r.approach)
    ∷ Some (row_values r.landing)
    ∷ []

abbrev pub thrust_values : Engine → Temperature → DraftThrust
thrust_values (kind.Jet c) t = record { ctc1 = c.ctc1; ctc2 = c.ctc2; ctc3 = pos c.ctc3; ctc4 = t.ctc4; ctc5 = t.ctc5 }
thrust_values (kind.Turboprop c) t = record { ctc1 = c.ctc1; ctc2 = c.ctc2; ctc3 = c.ctc3; ctc4 = t.ctc4; ctc5 = t.ctc5 }

-- the first three coefficients are those of the plain record
abbrev pub SameThrust : Engine → DraftThrust → Type 0
SameThrust (kind.Jet c) t = (c.ctc1 ≡ t.ctc1) × (c.ctc2 ≡ t.ctc2) × (pos c.ctc3 ≡ t.ctc3)
SameThrust (kind.Turboprop c) t = (c.ctc1 ≡ t.ctc1) × (c.ctc2 ≡ t.ctc2) × (c.ctc3 ≡ t.ctc3)

abbrev pub descent_values : Descent → DraftDescent
descent_values d = record { low = d.low; high = d.high; level = d.level; approach = d.approach; landing = d.landing }

abbrev pub consumption_values : Fuel → DraftConsumption
consumption_values f = record { cf1 = f.cf1; cf2 = f.cf2 }

abbrev pub idle_values : Fuel → DraftIdle
idle_values f = record { cf3 = f.cf3; cf4 = f.cf4 }

abbrev pub values_of : Aircraft → Draft
values_of a =
    record {
      engine = engine_type a.engine;
      masses = masses_values a.masses;
      ceiling = a.ceiling;
      wing = a.wing;
      rows = rows_values a.rows;
      gear = a.gear;
      thrust = thrust_values a.engine a.temperature;
      descent = descent_values a.descent;
      consumption = consumption_values (fuel_of a.engine);
      idle = idle_values (fuel_of a.engine);
      cruise = a.cruise;
    }

abbrev pub read_values : Result Aircraft Fault → Result Draft Fault
read_values (Ok a) = Ok (values_of a)
read_values (Err f) = Err f

-- Ranges.

pub record RangedMasses (m : DraftMasses) : Type 0 where
  pub light : 200000 ≤ m.minimum
  pub lower : m.minimum ≤ m.reference
  pub upper : m.reference ≤ m.maximum
  pub heavy : m.maximum ≤ 900000000

pub record RangedRow (r : DraftRow) : Type 0 where
  pub slowest : 20000 ≤ r.stall
  pub fastest : r.stall ≤ 250000
  pub parasitic : r.cd0 ≤ 47000000
  pub induced : r.cd2 ≤ 47000000

-- the row has come, and is within its ranges
abbrev pub GivenRow : Option DraftRow → Type 0
GivenRow None = ⊥
GivenRow (Some r) = RangedRow r

pub record RangedRows (rows : List (Option DraftRow)) : Type 0 where
  pub cruise : GivenRow (slice_index_or rows 0 None)
  pub initial : GivenRow (slice_index_or rows 1 None)
  pub takeoff : GivenRow (slice_index_or rows 2 None)
  pub approach : GivenRow (slice_index_or rows 3 None)
  pub landing : GivenRow (slice_index_or rows 4 None)
  pub clean : IfSome (slice_index_or rows 0 None) (λ r. 100000 ≤ r.cd0)

pub record RangedDescent (d : DraftDescent) : Type 0 where
  pub low : d.low ≤ 100000000
  pub high : d.high ≤ 100000000
  pub level : d.level ≤ 60000
  pub approach : d.approach ≤ 100000000
  pub landing : d.landing ≤ 100000000

pub record RangedTemperature (t : DraftThrust) : Type 0 where
  pub cold : negsuc 989999 ≤ℤ t.ctc4
  pub warm : t.ctc4 ≤ℤ pos 990000
  pub steep : t.ctc5 ≤ 10000000

pub record RangedFuel (c : DraftConsumption) (i : DraftIdle) : Type 0 where
  pub cf1_least : 1000000 ≤ c.cf1
  pub cf1_most : c.cf1 ≤ 1000000000
  pub cf2_least : 10000 ≤ c.cf2
  pub cf2_most : c.cf2 ≤ 999990000
  pub cf3_least : 10000 ≤ i.cf3
  pub cf3_most : i.cf3 ≤ 1000000000
  pub cf4_least : 10000 ≤ i.cf4
  pub cf4_most : i.cf4 ≤ 99999000

pub record RangedJet (t : DraftThrust) : Type 0 where
  pub ctc1_least : 100000 ≤ t.ctc1
  pub ctc1_most : t.ctc1 ≤ 2000000000
  pub ctc2_least : 10000 ≤ t.ctc2
  pub ctc2_most : t.ctc2 ≤ 999990
  pub ctc3_least : pos 0 ≤ℤ t.ctc3
  pub ctc3_most : t.ctc3 ≤ℤ pos 9999900

pub record RangedTurboprop (t : DraftThrust) : Type 0 where
  pub ctc1_most : t.ctc1 ≤ 99999000000
  pub ctc2_least : 10000 ≤ t.ctc2
  pub ctc2_most : t.ctc2 ≤ 999990
  pub ctc3_least : negsuc 999999999 ≤ℤ t.ctc3
  pub ctc3_most : t.ctc3 ≤ℤ pos 1000000000

abbrev pub RangedThrust : EngineType → DraftThrust → Type 0
RangedThrust engine.Jet t = RangedJet t
RangedThrust engine.Turboprop t = RangedTurboprop t

pub record Ranged (d : Draft) : Type 0 where
  pub masses : RangedMasses d.masses
  pub ceiling_least : 1000 ≤ d.ceiling
  pub ceiling_most : d.ceiling ≤ 60000
  pub wing_least : 5000 ≤ d.wing
  pub wing_most : d.wing ≤ 1000000
  pub rows : RangedRows d.rows
  pub gear_most : d.gear ≤ 47000000
  pub thrust : RangedThrust d.engine d.thrust
  pub temperature : RangedTemperature d.thrust
  pub descent : RangedDescent d.descent
  pub fuel : RangedFuel d.consumption d.idle
  pub cruise_least : 50000 ≤ d.cruise
  pub cruise_most : d.cruise ≤ 200000
