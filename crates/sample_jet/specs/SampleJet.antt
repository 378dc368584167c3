-- The sample jet: any aircraft whose record has these values, in the record's units; its other values are free.
use Rattle.std.specs.Prelude.{◌≡◌, ℕ, pos}
use Rattle.aircraft.specs.declared.record.Aircraft.{Aircraft}
use Rattle.aircraft.specs.declared.record.Engine.TheVariants.{Jet}
use Rattle.aircraft.specs.declared.record.JetCoefficients.{JetCoefficients}
use Rattle.aircraft.specs.declared.record.Row.{Row}

pub record SampleJet (a : Aircraft) : Type 0 where
  -- 60, 40 and 80 t
  pub reference_mass : a.masses.reference ≡ 60000000
  pub minimum_mass : a.masses.minimum ≡ 40000000
  pub maximum_mass : a.masses.maximum ≡ 80000000
  -- 40,000 ft and 100 m²
  pub ceiling : a.ceiling ≡ 40000
  pub wing : a.wing ≡ 100000
  -- CR: 140 kt, 0.02, 0.04
  pub clean_stall : a.rows.cruise.stall ≡ 140000
  pub clean_cd0 : a.rows.cruise.cd0 ≡ 2000000
  pub clean_cd2 : a.rows.cruise.cd2 ≡ 4000000
  -- AP: 115 kt
  pub approach_stall : a.rows.approach.stall ≡ 115000
  -- a jet of 150,000 N, 50,000 ft, 10⁻¹⁰ ft⁻²
  pub coefficients : JetCoefficients
  pub jet : a.engine ≡ Jet coefficients
  pub ctc1 : coefficients.ctc1 ≡ 150000000
  pub ctc2 : coefficients.ctc2 ≡ 50000
  pub ctc3 : coefficients.ctc3 ≡ 1000000
  -- 10 K, 0.005 per K
  pub ctc4 : a.temperature.ctc4 ≡ pos 100000
  pub ctc5 : a.temperature.ctc5 ≡ 500000
  -- 0.7, 1,000 kt, 12 kg/min, 100,000 ft
  pub cf1 : coefficients.fuel.cf1 ≡ 70000000
  pub cf2 : coefficients.fuel.cf2 ≡ 100000
  pub cf3 : coefficients.fuel.cf3 ≡ 12000000
  pub cf4 : coefficients.fuel.cf4 ≡ 100000
  -- 1
  pub cruise_factor : a.cruise ≡ 100000

-- the coefficients of its engine
pub record SampleEngine (c : JetCoefficients) : Type 0 where
  pub ctc1 : c.ctc1 ≡ 150000000
  pub ctc2 : c.ctc2 ≡ 50000
  pub ctc3 : c.ctc3 ≡ 1000000
  pub cf1 : c.fuel.cf1 ≡ 70000000
  pub cf2 : c.fuel.cf2 ≡ 100000
  pub cf3 : c.fuel.cf3 ≡ 12000000
  pub cf4 : c.fuel.cf4 ≡ 100000

-- stall speed and drag coefficients of a row
pub record RowIs (r : Row) (stall cd0 cd2 : ℕ) : Type 0 where
  pub stall_is : r.stall ≡ stall
  pub cd0_is : r.cd0 ≡ cd0
  pub cd2_is : r.cd2 ≡ cd2

-- a sample jet with every other value that examples use
pub record Sample (a : Aircraft) : Type 0 where
  pub jet : SampleJet a
  -- IC and TO: 117 kt; AP: 115 kt; LD: 97 kt
  pub initial : RowIs a.rows.initial 117000 3305700 4536200
  pub takeoff : RowIs a.rows.takeoff 117000 3305700 4536200
  pub approach : RowIs a.rows.approach 115000 3803100 4493200
  pub landing : RowIs a.rows.landing 97000 7893500 4482200
  -- 0.0225
  pub gear : a.gear ≡ 2250000
  -- 0.0073, 0.0206, 8,000 ft, 0.12, 0.36
  pub descent_low : a.descent.low ≡ 730000
  pub descent_high : a.descent.high ≡ 2060000
  pub descent_level : a.descent.level ≡ 8000
  pub descent_approach : a.descent.approach ≡ 12000000
  pub descent_landing : a.descent.landing ≡ 36000000
