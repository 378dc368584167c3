-- The laws of the bench day and the standard day.
use Rattle.std.specs.Prelude.{◌≡◌, ℕ, ◌+◌, ◌/◌, ◌<◌, ℤ, pos, nat_lt, unsigned_abs}
use Rattle.std.proofs.Common.{arith, ltb-true}
use Rattle.std.proofs.lemmas.Bool.{cond_both}
use Rattle.std.proofs.lemmas.Int.{ints}
use Rattle.air.specs.Day.{AirLaws}
use Rattle.air.specs.Standard.{level, standard_density, standard_air, Counted}
use Rattle.air.specs.Days.{bench_air}
use Rattle.air.specs.declared.bench.Bench.{Bench}
use Rattle.air.specs.BetweenLemmas.{Inside, between_inside}
use Rattle.air.specs.Entries.{level_bounds}

level_inside : (k : ℕ) → k < 61 → Inside (pos 5000) (pos 150000) (pos (level k))
level_inside k p = let b = level_bounds k p in record { low = omega (arith, ints); high = omega (arith, ints) }

pub standard_inside : (h : ℕ) → Inside (pos 5000) (pos 150000) (standard_density h)
unfolding standard_density
standard_inside h =
    cond_both (nat_lt h 60000) _ _ (Inside (pos 5000) (pos 150000))
    (λ t. let p : h < 60000 = ltb-true h 60000 t in
    between_inside _ _ _ _ _ (omega arith) (omega arith) (level_inside (h / 1000) (omega arith)) (level_inside (h / 1000 + 1) (omega arith)))
    (λ _. level_inside 60 (omega arith))

not_negative : (z : ℤ) → Inside (pos 5000) (pos 150000) z → pos (unsigned_abs z) ≡ z
not_negative z i = omega (arith, ints)

pub counted : Counted
counted h = not_negative (standard_density h) (standard_inside h)

pub standard_laws : AirLaws standard_air
standard_laws =
    record {
      density_low = λ h p. let i = standard_inside h in omega (arith, ints);
      density_high = λ h p. let i = standard_inside h in omega (arith, ints);
      deviation_low = λ h p. omega (arith, ints);
      deviation_high = λ h p. omega (arith, ints);
    }

pub bench_laws : (b : Bench) → AirLaws (bench_air b)
bench_laws b =
    record {
      density_low = λ h p. b.thinnest;
      density_high = λ h p. b.densest;
      deviation_low = λ h p. b.coldest;
      deviation_high = λ h p. b.warmest;
    }
