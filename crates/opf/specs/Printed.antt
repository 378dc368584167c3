-- What an accepted file prints: each coefficient times its unit is exactly the number in the field that it comes from.
use Rattle.std.specs.Prelude.{◌≡◌, ℕ, ◌-◌, ◌^◌, true, List, [], length, ℤ, pos, ◌*ℤ◌, Some, None, Option}
use Rattle.std.specs.Option.{unwrap_or}
use Rattle.aircraft.specs.declared.words.Configuration.{Configuration}
use Rattle.aircraft.specs.declared.words.Configuration.TheVariants as flaps
use Rattle.aircraft.specs.declared.words.EngineType.TheVariants as engine
use Rattle.aircraft.specs.declared.record.Aircraft.{Aircraft}
use Rattle.aircraft.specs.declared.record.Engine.{Engine}
use Rattle.aircraft.specs.declared.record.Engine.TheVariants as kind
use Rattle.aircraft.specs.declared.record.Row.{Row}
use Rattle.aircraft.specs.declared.record.JetCoefficients.{JetCoefficients}
use Rattle.aircraft.specs.declared.record.TurbopropCoefficients.{TurbopropCoefficients}
use Rattle.aircraft.specs.Values.{fuel_of}
use Rattle.aircraft.specs.Words.{engine_word, engine_type}
use Rattle.opf.specs.declared.number.Number.{Number}
use Rattle.opf.specs.declared.number.Quantity.{Quantity}
use Rattle.opf.specs.Fields.{field}
use Rattle.opf.specs.Numbers.{number_of, signed_value, raising, lowering}
use Rattle.opf.specs.DataLines.{Fields, nth_line, names, line_naming, configuration_lines}
use Rattle.opf.specs.Quantities as quantity

-- v × 10 ^ lowering = ± digits × 10 ^ raising, where the number printed is ± digits × 10 ^ (exponent − 5)
abbrev pub IsNumber : Option Number → ℕ → ℤ → Type 0
IsNumber None u v = ⊥
IsNumber (Some x) u v = v *ℤ pos (10 ^ lowering x) ≡ signed_value x.negative x.digits *ℤ pos (10 ^ raising u x)

-- v counts units of ten to the -decimals, and v of them are the number that the field prints
abbrev pub Prints : {X : Type 0} → List ℕ → Quantity X → ℤ → Type 0
Prints s q v = IsNumber (number_of s) q.decimals v

abbrev pub PrintsCount : List ℕ → Quantity ℕ → ℕ → Type 0
PrintsCount s q v = Prints s q (pos v)

-- the data line that names a configuration
abbrev pub line_of : List Fields → Configuration → Fields
line_of d c = unwrap_or (line_naming c (configuration_lines d)) []

-- of the last four fields the first three
pub record RowPrinted (fs : Fields) (c : Configuration) (r : Row) : Type 0 where
  pub word : names c fs ≡ true
  pub stall : PrintsCount (field fs (length fs - 3)) quantity.stall_speed r.stall
  pub cd0 : PrintsCount (field fs (length fs - 2)) quantity.drag r.cd0
  pub cd2 : PrintsCount (field fs (length fs - 1)) quantity.drag r.cd2

pub record JetPrinted (fs : Fields) (c : JetCoefficients) : Type 0 where
  pub ctc1 : PrintsCount (field fs 1) (quantity.ctc1 engine.Jet) c.ctc1
  pub ctc2 : PrintsCount (field fs 2) quantity.ctc2 c.ctc2
  pub ctc3 : Prints (field fs 3) quantity.jet_ctc3 (pos c.ctc3)

pub record TurbopropPrinted (fs : Fields) (c : TurbopropCoefficients) : Type 0 where
  pub ctc1 : PrintsCount (field fs 1) (quantity.ctc1 engine.Turboprop) c.ctc1
  pub ctc2 : PrintsCount (field fs 2) quantity.ctc2 c.ctc2
  pub ctc3 : Prints (field fs 3) quantity.turboprop_ctc3 c.ctc3

abbrev pub ThrustPrinted : Fields → Engine → Type 0
ThrustPrinted fs (kind.Jet c) = JetPrinted fs c
ThrustPrinted fs (kind.Turboprop c) = TurbopropPrinted fs c

-- d has the data lines of the file
pub record Printed (d : List Fields) (a : Aircraft) : Type 0 where
  pub engine : field (nth_line d 1) 4 ≡ engine_word (engine_type a.engine)
  pub reference : PrintsCount (field (nth_line d 2) 1) quantity.mass a.masses.reference
  pub minimum : PrintsCount (field (nth_line d 2) 2) quantity.mass a.masses.minimum
  pub maximum : PrintsCount (field (nth_line d 2) 3) quantity.mass a.masses.maximum
  pub ceiling : PrintsCount (field (nth_line d 3) 3) quantity.ceiling a.ceiling
  pub wing : PrintsCount (field (nth_line d 4) 2) quantity.wing_area a.wing
  pub cruise_row : RowPrinted (line_of d flaps.Cruise) flaps.Cruise a.rows.cruise
  pub initial_row : RowPrinted (line_of d flaps.InitialClimb) flaps.InitialClimb a.rows.initial
  pub takeoff_row : RowPrinted (line_of d flaps.TakeOff) flaps.TakeOff a.rows.takeoff
  pub approach_row : RowPrinted (line_of d flaps.Approach) flaps.Approach a.rows.approach
  pub landing_row : RowPrinted (line_of d flaps.Landing) flaps.Landing a.rows.landing
  pub gear : PrintsCount (field (nth_line d 13) 3) quantity.drag a.gear
  pub thrust : ThrustPrinted (nth_line d 16) a.engine
  pub ctc4 : Prints (field (nth_line d 16) 4) quantity.ctc4 a.temperature.ctc4
  pub ctc5 : PrintsCount (field (nth_line d 16) 5) quantity.ctc5 a.temperature.ctc5
  pub low : PrintsCount (field (nth_line d 17) 1) quantity.descent_factor a.descent.low
  pub high : PrintsCount (field (nth_line d 17) 2) quantity.descent_factor a.descent.high
  pub level : PrintsCount (field (nth_line d 17) 3) quantity.descent_level a.descent.level
  pub approach : PrintsCount (field (nth_line d 17) 4) quantity.descent_factor a.descent.approach
  pub landing : PrintsCount (field (nth_line d 17) 5) quantity.descent_factor a.descent.landing
  pub cf1 : PrintsCount (field (nth_line d 19) 1) quantity.cf1 (fuel_of a.engine).cf1
  pub cf2 : PrintsCount (field (nth_line d 19) 2) quantity.cf2 (fuel_of a.engine).cf2
  pub cf3 : PrintsCount (field (nth_line d 20) 1) quantity.cf3 (fuel_of a.engine).cf3
  pub cf4 : PrintsCount (field (nth_line d 20) 2) quantity.cf4 (fuel_of a.engine).cf4
  pub cruise : PrintsCount (field (nth_line d 21) 1) quantity.cruise_factor a.cruise
