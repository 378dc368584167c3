-- What is known of a pair that a day has answered.
use Rattle.std.proofs.Common.{◌≡◌, ℕ, ◌≤◌, ℤ, pos, negsuc, ◌≤ℤ◌, Ok, ap, arith}
use Rattle.std.proofs.lemmas.Bool.Decides.{nat_tests}
use Rattle.air.specs.Day.{Air, AirLaws, day_answer}

pub record Answered (a : Air) (h density : ℕ) (deviation : ℤ) : Type 0 where
  pub asked : h ≤ 60000
  pub pair : (density, deviation) ≡ a.pair h
  pub density_low : 5000 ≤ density
  pub density_high : density ≤ 150000
  pub deviation_low : negsuc 4999 ≤ℤ deviation
  pub deviation_high : deviation ≤ℤ pos 5000

pub answered : {a : Air} → AirLaws a → {h density : ℕ} {deviation : ℤ} → Ok (density, deviation) ≡ day_answer a h → Answered a h density deviation
answered {a} laws {h} {density} {deviation} e =
    let p : h ≤ 60000 = grind (arith, nat_tests) in
    let q : (density, deviation) ≡ a.pair h = grind (arith, nat_tests) in
    let r : density ≡ (a.pair h).0 = ap (λ (x : ℕ × ℤ). x.0) q in
    let d : deviation ≡ (a.pair h).1 = ap (λ (x : ℕ × ℤ). x.1) q in
    record {
      asked = p;
      pair = q;
      density_low = omega (arith, laws.density_low h p);
      density_high = omega (arith, laws.density_high h p);
      deviation_low = rw d (laws.deviation_low h p);
      deviation_high = rw d (laws.deviation_high h p);
    }
