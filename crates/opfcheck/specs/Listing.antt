-- What is printed of a file, byte for byte: a line for each coefficient, or the line of its fault.
use Rattle.std.specs.Prelude.{ℕ, List, [], ◌∷◌, ◌++◌, codes, decimal}
use Rattle.std.specs.Fmt.{signed_decimal}
use Rattle.refusal.specs.declared.fault.Fault.{Fault}
use Rattle.refusal.specs.Numbers.{fault_figures, fault_layer, layer_word}
use Rattle.aircraft.specs.declared.record.Aircraft.{Aircraft}
use Rattle.aircraft.specs.declared.record.Descent.{Descent}
use Rattle.aircraft.specs.declared.record.Engine.{Engine}
use Rattle.aircraft.specs.declared.record.Engine.TheVariants as kind
use Rattle.aircraft.specs.declared.record.Fuel.{Fuel}
use Rattle.aircraft.specs.declared.record.Masses.{Masses}
use Rattle.aircraft.specs.declared.record.Row.{Row}
use Rattle.aircraft.specs.declared.record.Rows.{Rows}
use Rattle.aircraft.specs.declared.record.Temperature.{Temperature}
use Rattle.aircraft.specs.declared.words.Configuration.{Configuration}
use Rattle.aircraft.specs.declared.words.Configuration.TheVariants as flaps
use Rattle.aircraft.specs.Words.{engine_word, engine_type, configuration_word}
use Rattle.aircraft.specs.Values.{fuel_of}

-- a name, a space, a number and the line's end, before what follows
abbrev pub line : List ℕ → List ℕ → List ℕ → List ℕ
line name value after = name ++ (32 ∷ (value ++ (10 ∷ after)))

abbrev pub count : List ℕ → ℕ → List ℕ → List ℕ
count name n after = line name (decimal n) after

abbrev pub fault_text : Fault → List ℕ
fault_text f = codes "no " ++ (fault_figures f ++ (32 ∷ (layer_word (fault_layer f) ++ (10 ∷ []))))

abbrev pub masses_text : Masses → List ℕ
masses_text m = count (codes "mass_ref") m.reference (count (codes "mass_min") m.minimum (count (codes "mass_max") m.maximum []))

abbrev pub frame_text : Aircraft → List ℕ
frame_text a =
    line (codes "engine") (engine_word (engine_type a.engine))
    (masses_text a.masses
    ++ count (codes "alt_max") a.ceiling
    (count (codes "wing_area") a.wing []))

-- the names end with the configuration's word
abbrev pub drag_text : Configuration → Row → List ℕ
drag_text c r = codes "cd0_" ++ count (configuration_word c) r.cd0 (codes "cd2_" ++ count (configuration_word c) r.cd2 [])

abbrev pub row_text : Configuration → Row → List ℕ
row_text c r = codes "stall_" ++ count (configuration_word c) r.stall (drag_text c r)

abbrev pub rows_text : Rows → List ℕ
rows_text r =
    row_text flaps.Cruise r.cruise
    ++ (row_text flaps.InitialClimb r.initial
    ++ (row_text flaps.TakeOff r.takeoff
    ++ (row_text flaps.Approach r.approach
    ++ row_text flaps.Landing r.landing)))

abbrev pub thrust_text : Engine → Temperature → List ℕ
thrust_text (kind.Jet c) t =
    count (codes "ctc1") c.ctc1
    (count (codes "ctc2") c.ctc2
    (count (codes "ctc3") c.ctc3
    (line (codes "ctc4") (signed_decimal t.ctc4)
    (count (codes "ctc5") t.ctc5 []))))
thrust_text (kind.Turboprop c) t =
    count (codes "ctc1") c.ctc1
    (count (codes "ctc2") c.ctc2
    (line (codes "ctc3") (signed_decimal c.ctc3)
    (line (codes "ctc4") (signed_decimal t.ctc4)
    (count (codes "ctc5") t.ctc5 []))))

abbrev pub descent_text : Descent → List ℕ
descent_text d =
    count (codes "desc_low") d.low
    (count (codes "desc_high") d.high
    (count (codes "desc_level") d.level
    (count (codes "desc_ap") d.approach
    (count (codes "desc_ld") d.landing []))))

abbrev pub fuel_text : Fuel → List ℕ
fuel_text f =
    count (codes "cf1") f.cf1
    (count (codes "cf2") f.cf2
    (count (codes "cf3") f.cf3
    (count (codes "cf4") f.cf4 [])))

abbrev pub power_text : Aircraft → List ℕ
power_text a =
    thrust_text a.engine a.temperature
    ++ (descent_text a.descent
    ++ (fuel_text (fuel_of a.engine)
    ++ count (codes "cfcr") a.cruise []))

abbrev pub listing_text : Aircraft → List ℕ
listing_text a = frame_text a ++ (rows_text a.rows ++ count (codes "gear_cd0") a.gear (power_text a))
