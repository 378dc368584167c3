-- What is read from a file: the unit of each value, ten to the -decimals of the unit in which the file has it, and its range in that unit.
use Rattle.std.specs.Prelude.{ℕ, ℤ, pos, negsuc}
use Rattle.aircraft.specs.declared.words.EngineType.{EngineType}
use Rattle.aircraft.specs.declared.words.EngineType.TheVariants as engine
use Rattle.aircraft.specs.declared.words.Configuration.{Configuration}
use Rattle.aircraft.specs.declared.words.Configuration.TheVariants as flaps
use Rattle.opf.specs.declared.number.Quantity.{Quantity}

abbrev pub quantity : {X : Type 0} → ℕ → X → X → Quantity X
quantity decimals low high = record { decimals = decimals; low = low; high = high }

-- 1 g of a tonne, 0.2 to 900 t
abbrev pub mass : Quantity ℕ
mass = quantity 6 200000 900000000

-- 1 ft, 1,000 to 60,000
abbrev pub ceiling : Quantity ℕ
ceiling = quantity 0 1000 60000

-- 0.001 m², 5 to 1,000
abbrev pub wing_area : Quantity ℕ
wing_area = quantity 3 5000 1000000

-- 0.001 kt, 20 to 250
abbrev pub stall_speed : Quantity ℕ
stall_speed = quantity 3 20000 250000

-- 10⁻⁸, 0 to 0.47
abbrev pub drag : Quantity ℕ
drag = quantity 8 0 47000000

-- the clean configuration's CD0 is at least 0.001
abbrev pub parasitic_drag : Configuration → Quantity ℕ
parasitic_drag flaps.Cruise = quantity 8 100000 47000000
parasitic_drag flaps.InitialClimb = drag
parasitic_drag flaps.TakeOff = drag
parasitic_drag flaps.Approach = drag
parasitic_drag flaps.Landing = drag

-- jet: 1 mN, 100 to 2,000,000 N; turboprop: 0.001 kt·N, 0 to 99,999,000
abbrev pub ctc1 : EngineType → Quantity ℕ
ctc1 engine.Jet = quantity 3 100000 2000000000
ctc1 engine.Turboprop = quantity 3 0 99999000000

-- 1 ft, 10,000 to 999,990
abbrev pub ctc2 : Quantity ℕ
ctc2 = quantity 0 10000 999990

-- 10⁻¹⁶ ft⁻², 0 to 9.9999×10⁻¹⁰
abbrev pub jet_ctc3 : Quantity ℤ
jet_ctc3 = quantity 16 (pos 0) (pos 9999900)

-- 1 mN, −10⁶ to 10⁶ N
abbrev pub turboprop_ctc3 : Quantity ℤ
turboprop_ctc3 = quantity 3 (negsuc 999999999) (pos 1000000000)

abbrev pub ctc3 : EngineType → Quantity ℤ
ctc3 engine.Jet = jet_ctc3
ctc3 engine.Turboprop = turboprop_ctc3

-- 10⁻⁴ K, −99 to 99
abbrev pub ctc4 : Quantity ℤ
ctc4 = quantity 4 (negsuc 989999) (pos 990000)

-- 10⁻⁸ per K, 0 to 0.1
abbrev pub ctc5 : Quantity ℕ
ctc5 = quantity 8 0 10000000

-- 10⁻⁸, 0 to 1
abbrev pub descent_factor : Quantity ℕ
descent_factor = quantity 8 0 100000000

-- 1 ft, 0 to 60,000
abbrev pub descent_level : Quantity ℕ
descent_level = quantity 0 0 60000

-- 10⁻⁸, 0.01 to 10
abbrev pub cf1 : Quantity ℕ
cf1 = quantity 8 1000000 1000000000

-- 0.01 kt, 100 to 9,999,900
abbrev pub cf2 : Quantity ℕ
cf2 = quantity 2 10000 999990000

-- 1 mg/min, 0.01 to 1,000 kg/min
abbrev pub cf3 : Quantity ℕ
cf3 = quantity 6 10000 1000000000

-- 1 ft, 10,000 to 99,999,000
abbrev pub cf4 : Quantity ℕ
cf4 = quantity 0 10000 99999000

-- 10⁻⁵, 0.5 to 2
abbrev pub cruise_factor : Quantity ℕ
cruise_factor = quantity 5 50000 200000
