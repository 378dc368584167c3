use Rattle.std.proofs.Common.{◌≡◌, ◌-◌, ◌*ℤ◌, ◌-ℤ◌, pos, arith, lit<, w64, of_z, to_z}
use Rattle.std.proofs.lemmas.Int.{ints, to_z-of_z, fits_signed_mul}
use Rattle.air.proofs.levels.Between.rise.Goals as goal

pub returns : goal.returns
returns c =
    let s = c.args.self in
    let lower : to_z w64 (of_z w64 s.x0) ≡ s.x0 = omega (arith, ints) in
    let upper : to_z w64 (of_z w64 s.x1) ≡ s.x1 = omega (arith, ints) in
    let gain : to_z w64 (of_z w64 (s.x1 -ℤ s.x0)) ≡ s.x1 -ℤ s.x0 = omega (arith, ints) in
    let part : to_z w64 (s.h - s.h0) ≡ pos (s.h - s.h0) = omega (arith, ints) in
    let whole : to_z w64 (s.h1 - s.h0) ≡ pos (s.h1 - s.h0) = omega (arith, ints) in
    let product =
    to_z-of_z w64 ((s.x1 -ℤ s.x0) *ℤ pos (s.h - s.h0)) (fits_signed_mul w64 (s.x1 -ℤ s.x0) (pos (s.h - s.h0)) 300000 60000 (omega (arith, ints)) (omega arith) (lit< tt))
    in
    let result : to_z w64 (of_z w64 c.div_euclid.result) ≡ c.div_euclid.result = omega (arith, ints) in
    cc
