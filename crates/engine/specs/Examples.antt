-- Two engines at which exact values are fractions, and the answered ones are not.
use Rattle.std.specs.Prelude.{◌≡◌, negsuc}
use Rattle.std.proofs.Common.{arith}
use Rattle.exact.specs.Rational.{nat, ◌÷ℚ◌, ◌≈◌}
use Rattle.aircraft.specs.declared.record.JetCoefficients.{JetCoefficients}
use Rattle.aircraft.specs.declared.record.TurbopropCoefficients.{TurbopropCoefficients}
use Rattle.engine.specs.Jets.{jet_engine}
use Rattle.engine.specs.Turboprops.{turboprop_engine}

-- 150,000 N, 50,000 ft, 10⁻¹⁰ ft⁻²; 0.7, 1,000 kt, 12 kg/min, 100,000 ft
abbrev pub sample_jet : JetCoefficients
sample_jet =
    record {
      ctc1 = 150000000;
      ctc2 = 50000;
      ctc3 = 1000000;
      fuel =
          record {
            cf1 = 70000000;
            cf2 = 100000;
            cf3 = 12000000;
            cf4 = 100000;
            cf1_least = omega arith;
            cf1_most = omega arith;
            cf2_least = omega arith;
            cf2_most = omega arith;
            cf3_least = omega arith;
            cf3_most = omega arith;
            cf4_least = omega arith;
            cf4_most = omega arith;
          };
      ctc1_least = omega arith;
      ctc1_most = omega arith;
      ctc2_least = omega arith;
      ctc2_most = omega arith;
      ctc3_most = omega arith;
    }

-- 2,000,000 kt·N, 30,000 ft, −1,000 N; 0.8, 700 kt, 10 kg/min, 30,000 ft
abbrev pub sample_turboprop : TurbopropCoefficients
sample_turboprop =
    record {
      ctc1 = 2000000000;
      ctc2 = 30000;
      ctc3 = negsuc 999999;
      fuel =
          record {
            cf1 = 80000000;
            cf2 = 70000;
            cf3 = 10000000;
            cf4 = 30000;
            cf1_least = omega arith;
            cf1_most = omega arith;
            cf2_least = omega arith;
            cf2_most = omega arith;
            cf3_least = omega arith;
            cf3_most = omega arith;
            cf4_least = omega arith;
            cf4_most = omega arith;
          };
      ctc1_most = omega arith;
      ctc2_least = omega arith;
      ctc2_most = omega arith;
      ctc3_least = record { le = tt };
      ctc3_most = record { le = tt };
    }

-- the jet at 1 ft and 450.1 kt: 149,997,000.015 mN, and for a thrust of 1 mN and of half of it 1.01507 and 0.507535 mg/min
pub record JetExample : Type 0 where
  pub thrust : (jet_engine sample_jet).thrust 1 4501 ≡ 149997000
  pub exact_thrust : (jet_engine sample_jet).exact_thrust 1 4501 ≈ nat 149997000015 ÷ℚ nat 1000
  pub nominal : (jet_engine sample_jet).nominal 4501 1 ≡ 1
  pub exact_nominal : (jet_engine sample_jet).exact_nominal 4501 (nat 1) ≈ nat 101507 ÷ℚ nat 100000
  pub half_nominal : (jet_engine sample_jet).exact_nominal 4501 (nat 1 ÷ℚ nat 2) ≈ nat 101507 ÷ℚ nat 200000

-- the turboprop at 10,000 ft and 300.1 kt, idle at 1 ft
pub record TurbopropExample : Type 0 where
  pub thrust : (turboprop_engine sample_turboprop).thrust 10000 3001 ≡ 3442963
  pub exact_thrust : (turboprop_engine sample_turboprop).exact_thrust 10000 3001 ≈ nat 30997000000 ÷ℚ nat 9003
  pub nominal : (turboprop_engine sample_turboprop).nominal 3001 1000 ≡ 137
  pub exact_nominal : (turboprop_engine sample_turboprop).exact_nominal 3001 (nat 1000) ≈ nat 12000999 ÷ℚ nat 87500
  pub idle : (turboprop_engine sample_turboprop).idle 1 ≡ 9999666
  pub exact_idle : (turboprop_engine sample_turboprop).exact_idle 1 ≈ nat 29999000 ÷ℚ nat 3
