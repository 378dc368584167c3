-- There is a sample jet, and a bench of the sample day; what the worked figures leave free is chosen here.
use Rattle.std.proofs.Common.{pos, refl, arith}
use Rattle.aircraft.specs.declared.record.Aircraft.{Aircraft}
use Rattle.aircraft.specs.declared.record.Descent.{Descent}
use Rattle.aircraft.specs.declared.record.Engine.TheVariants.{Jet}
use Rattle.aircraft.specs.declared.record.Masses.{Masses}
use Rattle.aircraft.specs.declared.record.Row.{Row}
use Rattle.aircraft.specs.declared.record.Rows.{Rows}
use Rattle.aircraft.specs.declared.record.Temperature.{Temperature}
use Rattle.air.specs.declared.bench.Bench.{Bench}
use Rattle.engine.specs.Examples.{sample_jet}
use Rattle.samples.specs.Worked.{SampleExists}

abbrev masses : Masses
masses =
    record {
      reference = 60000000;
      minimum = 40000000;
      maximum = 80000000;
      light = omega arith;
      lower = omega arith;
      upper = omega arith;
      heavy = omega arith;
    }

abbrev clean : Row
clean =
    record {
      stall = 140000;
      cd0 = 2000000;
      cd2 = 4000000;
      slowest = omega arith;
      fastest = omega arith;
      parasitic = omega arith;
      induced = omega arith;
    }

abbrev flapped : Row
flapped =
    record {
      stall = 115000;
      cd0 = 3803100;
      cd2 = 4493200;
      slowest = omega arith;
      fastest = omega arith;
      parasitic = omega arith;
      induced = omega arith;
    }

abbrev rows : Rows
rows =
    record {
      cruise = clean;
      initial = flapped;
      takeoff = flapped;
      approach = flapped;
      landing = flapped;
      clean = omega arith;
    }

abbrev temperature : Temperature
temperature =
    record {
      ctc4 = pos 100000;
      ctc5 = 500000;
      cold = record { le = tt };
      warm = record { le = tt };
      steep = omega arith;
    }

abbrev descent : Descent
descent =
    record {
      low = 730000;
      high = 2060000;
      level = 8000;
      approach = 12000000;
      landing = 36000000;
      low_most = omega arith;
      high_most = omega arith;
      level_most = omega arith;
      approach_most = omega arith;
      landing_most = omega arith;
    }

abbrev aircraft : Aircraft
aircraft =
    record {
      engine = Jet sample_jet;
      masses = masses;
      ceiling = 40000;
      wing = 100000;
      rows = rows;
      gear = 2250000;
      temperature = temperature;
      descent = descent;
      cruise = 100000;
      ceiling_least = omega arith;
      ceiling_most = omega arith;
      wing_least = omega arith;
      wing_most = omega arith;
      gear_most = omega arith;
      cruise_least = omega arith;
      cruise_most = omega arith;
    }

abbrev bench : Bench
bench =
    record {
      density = 45000;
      deviation = pos 0;
      thinnest = omega arith;
      densest = omega arith;
      coldest = record { le = tt };
      warmest = record { le = tt };
    }

pub sample_exists : SampleExists
sample_exists =
    record {
      aircraft = aircraft;
      bench = bench;
      is_jet =
          record {
            reference_mass = refl;
            minimum_mass = refl;
            maximum_mass = refl;
            ceiling = refl;
            wing = refl;
            clean_stall = refl;
            clean_cd0 = refl;
            clean_cd2 = refl;
            approach_stall = refl;
            coefficients = sample_jet;
            jet = refl;
            ctc1 = refl;
            ctc2 = refl;
            ctc3 = refl;
            ctc4 = refl;
            ctc5 = refl;
            cf1 = refl;
            cf2 = refl;
            cf3 = refl;
            cf4 = refl;
            cruise_factor = refl;
          };
      is_bench = record { density = refl; deviation = refl };
    }
