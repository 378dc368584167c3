-- The worked figures: numbers of aircraft files, a density between two levels, the sample jet and the sample sheet.
use Rattle.std.specs.Prelude.{◌≡◌, ℕ, pos, Some, codes}
use Rattle.refusal.specs.declared.fault.Fault.TheVariants as fault
use Rattle.refusal.specs.Numbers.{fault_number}
use Rattle.aircraft.specs.declared.record.Aircraft.{Aircraft}
use Rattle.aircraft.specs.declared.words.Configuration.{Configuration}
use Rattle.aircraft.specs.declared.words.Configuration.TheVariants as flaps
use Rattle.aircraft.specs.declared.words.EngineType.TheVariants as engine
use Rattle.opf.specs.Numbers.{number_of, whole_count, natural_in}
use Rattle.opf.specs.Quantities.{stall_speed}
use Rattle.opf.specs.Fields.{fields}
use Rattle.opf.specs.Faults.{first_of}
use Rattle.opf.specs.DataLines.{bound, thrust_faults}
use Rattle.air.specs.declared.bench.Bench.{Bench}
use Rattle.air.specs.Day.{Air}
use Rattle.air.specs.Between.{between}
use Rattle.engine.specs.Engines.{engine_of}
use Rattle.leg.specs.declared.phase.Phase.TheVariants.{Descent}
use Rattle.leg.specs.declared.figures.Figures.{Figures}
use Rattle.leg.specs.Configurations.{configuration_of}
use Rattle.leg.specs.Legs.{deviation_at, leg_available}
use Rattle.sample_jet.specs.SampleJet.{SampleJet}
use Rattle.samples.specs.SampleSheet.{SampleBench, sample_setting, SampleSheet}

-- line n of a file, the sample jet's thrust coefficients but for the third
abbrev pub OddCtc3 : ℕ → Type 0
OddCtc3 n =
    first_of (thrust_faults engine.Jet n (fields (codes " .15000E+06 .50000E+05 .12345E-12 .10000E+02 .50000E-02 /")))
    ≡ Some (fault.Value n 3)

-- a configuration in descent, at any true airspeed and for any time
abbrev pub DescendsIn : Aircraft → Configuration → (altitude calibrated : ℕ) → Type 0
DescendsIn a c altitude calibrated =
    (speed seconds : ℕ) → configuration_of a Descent (record { altitude = altitude; speed = speed; calibrated = calibrated; seconds = seconds }) ≡ c

pub record JetFigures (a : Aircraft) : Type 0 where
  -- at 10,000 ft where it is 20 K warmer than standard: 115,425 N are available, at any speed
  pub warm_thrust : (air : Air) (f : Figures) → f.altitude ≡ 10000 → deviation_at air f ≡ pos 2000 → leg_available a (engine_of a) air f ≡ 115425000
  -- 8.4 kg/min
  pub idle : (engine_of a).idle 30000 ≡ 8400000
  pub clean_enough : DescendsIn a flaps.Cruise 7999 192
  pub too_slow_for_clean : DescendsIn a flaps.Approach 7999 191
  pub high : DescendsIn a flaps.Cruise 8000 191
  pub too_slow_for_approach : DescendsIn a flaps.Landing 2999 159
  pub approach_enough : DescendsIn a flaps.Approach 2999 160

-- what is said of every sample jet and bench is said of something
pub record SampleExists : Type 0 where
  pub aircraft : Aircraft
  pub bench : Bench
  pub is_jet : SampleJet aircraft
  pub is_bench : SampleBench bench

pub record WorkedFigures : Type 0 where
  pub whole : bound (number_of (codes ".14000E+03")) (whole_count 0) ≡ Some 140
  -- in 0.001 kt
  pub stall : bound (number_of (codes ".14000E+03")) (natural_in stall_speed) ≡ Some 140000
  -- 1.2345 × 10⁻¹³ is no whole count of 10⁻¹⁶
  pub odd_ctc3 : (n : ℕ) → OddCtc3 n
  pub odd_number : (n : ℕ) → fault_number (fault.Value n 3) ≡ 8
  -- 122,500 at 0 ft, 118,000 at 1,000 ft
  pub between_levels : between (pos 122500) (pos 118000) 0 1000 333 ≡ pos 121001
  pub jet : (a : Aircraft) → SampleJet a → JetFigures a
  pub sheet : (a : Aircraft) (b : Bench) → SampleJet a → SampleBench b → SampleSheet (sample_setting a b)
  pub exists : SampleExists
