-- A value between two levels lies in every range in which both levels lie.
use Rattle.std.specs.Prelude.{ℕ, zero, suc, ◌-◌, ◌*◌, ◌/◌, ◌<◌, ◌≤◌, ◌⊎◌, ℤ, pos, negsuc, ◌+ℤ◌, ◌-ℤ◌, ◌*ℤ◌, neg_ℤ, ◌≤ℤ◌, unsigned_abs}
use Rattle.std.proofs.Common.{inl, inr, div-lt_iff_lt-mul, mul-le-mul_left, arith}
use Rattle.std.proofs.Math.Nat.{div-le_of_le-mul}
use Rattle.std.specs.Int.{int_div_euclid}
use Rattle.std.proofs.lemmas.Int.{ints}
use Rattle.air.specs.Between.{between}

pub record Inside (lo hi z : ℤ) : Type 0 where
  pub low : lo ≤ℤ z
  pub high : z ≤ℤ hi

-- the part t/n of a whole d, rounded down, lies between 0 and d
abbrev Part : ℤ → ℤ → Type 0
Part d q = ((pos 0 ≤ℤ q) × (q ≤ℤ d)) ⊎ ((d ≤ℤ q) × (q ≤ℤ pos 0))

part_of_fall : (m n a : ℕ) → 0 < n → m ≤ suc a * n → Part (negsuc a) (int_div_euclid (neg_ℤ (pos m)) (pos n))
part_of_fall zero n a p h = let z : 0 / n ≤ 0 = div-le_of_le-mul n (omega arith) in inr (omega (arith, ints), omega (arith, ints))
part_of_fall (suc m) n a p h =
    let z : m / n < suc a = (div-lt_iff_lt-mul {y = suc a} p).1 (omega arith) in inr (omega (arith, ints), omega (arith, ints))

part : (d : ℤ) (t n : ℕ) → 0 < n → t ≤ n → Part d (int_div_euclid (d *ℤ pos t) (pos n))
part (pos a) t n p h =
    let z : a * t / n ≤ a = div-le_of_le-mul n (omega (arith, mul-le-mul_left a h)) in inl (omega (arith, ints), omega (arith, ints))
part (negsuc a) t n p h = part_of_fall (suc a * t) n a p (mul-le-mul_left (suc a) h)

inside_part : (lo hi x0 x1 q : ℤ) → Inside lo hi x0 → Inside lo hi x1 → Part (x1 -ℤ x0) q → Inside lo hi (x0 +ℤ q)
inside_part lo hi x0 x1 q a b (inl p) = record { low = omega (arith, ints); high = omega (arith, ints) }
inside_part lo hi x0 x1 q a b (inr p) = record { low = omega (arith, ints); high = omega (arith, ints) }

pub between_inside : {lo hi : ℤ} (x0 x1 : ℤ) (h0 h1 h : ℕ) → h0 < h1 → h ≤ h1 → Inside lo hi x0 → Inside lo hi x1 → Inside lo hi (between x0 x1 h0 h1 h)
between_inside {lo} {hi} x0 x1 h0 h1 h p q a b =
    inside_part lo hi x0 x1 (int_div_euclid ((x1 -ℤ x0) *ℤ pos (h - h0)) (pos (h1 - h0))) a b
    (part (x1 -ℤ x0) (h - h0) (h1 - h0) (omega arith) (omega arith))

pub between_small : (x0 x1 : ℤ) (h0 h1 h : ℕ) → unsigned_abs x0 ≤ 150000 → unsigned_abs x1 ≤ 150000 → h0 ≤ h → h < h1 → unsigned_abs (between x0 x1 h0 h1 h) ≤ 150000
between_small x0 x1 h0 h1 h p q r s =
    let i = between_inside {lo = negsuc 149999} {hi = pos 150000} x0 x1 h0 h1 h (omega arith) (omega arith) (record { low = omega (arith, ints); high = omega (arith, ints) }) (record { low = omega (arith, ints); high = omega (arith, ints) }) in
    omega (arith, ints)
