use Rattle.std.proofs.Common.{◌≡◌, ℤ, pos, negsuc, ◌-ℤ◌, ◌*ℤ◌, ◌≤ℤ◌, SFits, to_z, of_z, arith, w64}
use Rattle.std.proofs.lemmas.Int.{ints, to_z-of_z, fits_signed_mul}
use Rattle.aircraft.specs.declared.record.Temperature.{Temperature}
use Rattle.leg.specs.Rules.{warming}
use Rattle.leg.proofs.conditions.Conditions.warmth.Goals as goal

module _ (t : Temperature) (d : ℤ) (coldest : negsuc 4999 ≤ℤ d) (warmest : d ≤ℤ pos 5000) where
  -- both factors as the code works them out
  abbrev steep : ℤ
  steep = to_z w64 t.ctc5

  abbrev warmer : ℤ
  warmer = to_z w64 (of_z w64 (to_z w64 (of_z w64 (pos 100 *ℤ to_z w64 (of_z w64 d))) -ℤ to_z w64 (of_z w64 t.ctc4)))

  steep_is : steep ≡ pos t.ctc5
  steep_is = omega (arith, ints, t.steep)

  warmer_is : warmer ≡ (pos 100 *ℤ d) -ℤ t.ctc4
  warmer_is = omega (arith, ints, t.cold, t.warm)

  product_fits : SFits w64 (steep *ℤ warmer)
  product_fits =
      fits_signed_mul w64 steep warmer 10000000 1490000 (omega (arith, ints, t.steep)) (omega (arith, ints, t.cold, t.warm)) (omega arith)

  product_is : to_z w64 (of_z w64 (steep *ℤ warmer)) ≡ warming t d
  product_is = rw (to_z-of_z w64 (steep *ℤ warmer) product_fits, steep_is, warmer_is)

pub overflow_mul-result-2 : goal.overflow_mul-result-2
overflow_mul-result-2 c = product_fits c.args.t.now c.self.inside.deviation c.self.invariant.1 c.self.invariant.2

pub returns : goal.returns
returns c = rw (← c.self.view_is) (product_is c.args.t.now c.self.inside.deviation c.self.invariant.1 c.self.invariant.2)
