-- The worked figures: by the equations of the sample jet and its day, each one computes.
use Rattle.std.proofs.Common.{refl}
use Rattle.aircraft.specs.declared.record.Aircraft.{Aircraft}
use Rattle.air.specs.declared.bench.Bench.{Bench}
use Rattle.opf.specs.Numbers.{number_of, fixed_point, natural_in, signed_in}
use Rattle.opf.specs.DataLines.{counted_fault}
use Rattle.sample_jet.specs.SampleJet.{SampleJet}
use Rattle.samples.specs.SampleSheet.{SampleBench, sample_setting, SampleSheet}
use Rattle.samples.specs.Worked.{JetFigures, WorkedFigures}
use Rattle.samples.proofs.Exists.{sample_exists}

jet_figures : (a : Aircraft) → SampleJet a → JetFigures a
jet_figures a s =
    record {
      warm_thrust = λ air f h d. rw (d, h, s.jet, s.ctc1, s.ctc2, s.ctc3, s.ctc4, s.ctc5);
      idle = rw (s.jet, s.cf3, s.cf4);
      clean_enough = λ speed seconds. rw s.clean_stall;
      too_slow_for_clean = λ speed seconds. rw s.clean_stall;
      high = λ speed seconds. refl;
      too_slow_for_approach = λ speed seconds. rw (s.clean_stall, s.approach_stall);
      approach_enough = λ speed seconds. rw (s.clean_stall, s.approach_stall);
    }

sample_sheet : (a : Aircraft) (b : Bench) → SampleJet a → SampleBench b → SampleSheet (sample_setting a b)
sample_sheet a b s d =
    record {
      start = rw (s.minimum_mass, s.maximum_mass);
      start_reading = refl;
      climb = simp (s.ceiling, d.density, d.deviation, s.wing, s.clean_cd0, s.clean_cd2, s.jet, s.ctc1, s.ctc2, s.ctc3, s.ctc4, s.ctc5, s.cf1, s.cf2);
      climb_reading = refl;
      cruise = simp (s.ceiling, d.density, d.deviation, s.wing, s.clean_cd0, s.clean_cd2, s.jet, s.ctc1, s.ctc2, s.ctc3, s.ctc4, s.ctc5, s.cf1, s.cf2, s.cruise_factor);
      cruise_reading = refl;
      overlong = simp s.ceiling;
      overlong_number = refl;
      jettison = refl;
      jettison_reading = refl;
    }

pub worked : WorkedFigures
unfolding number_of fixed_point natural_in signed_in counted_fault
worked =
    record {
      whole = refl;
      stall = refl;
      odd_ctc3 = λ n. refl;
      odd_number = λ n. refl;
      between_levels = refl;
      jet = jet_figures;
      sheet = sample_sheet;
      exists = sample_exists;
    }
