-- Naturals and integers among the exact numbers: order, sum, difference, product, greatest and least stay what they were.
use Rattle.std.proofs.Common.{◌≡◌, ℕ, ◌+◌, ◌-◌, ◌*◌, ◌<◌, ◌≤◌, min, max, ℤ, pos, negsuc, ◌+ℤ◌, ◌-ℤ◌, ◌*ℤ◌, neg_ℤ, ◌≤ℤ◌, ◌<ℤ◌, refl, arith}
use borrow.Author.Differences.{ints, up, down}
use Rattle.std.proofs.lemmas.Int.{clamps}
use Rattle.std.specs.Int.{int_min as minZ, int_max as maxZ}
use Rattle.exact.specs.Rational.{ℚ, ◌≤ℚ◌, ◌<ℚ◌, ◌≈◌, nat, int, ◌+ℚ◌, ◌-ℚ◌, negℚ, ◌*ℚ◌, minℚ, maxℚ}

-- Naturals.

pub nat-≤ : {a b : ℕ} → a ≤ b → nat a ≤ℚ nat b
nat-≤ h = omega arith

pub nat-< : {a b : ℕ} → a < b → nat a <ℚ nat b
nat-< h = omega arith

pub nat-≥0 : (n : ℕ) → nat 0 ≤ℚ nat n
nat-≥0 n = omega arith

pub ≤_nat : (a b : ℕ) → nat a ≤ℚ nat b → a ≤ b
≤_nat a b h = omega (arith, h.le)

pub nat-+ : (a b : ℕ) → nat (a + b) ≈ nat a +ℚ nat b
nat-+ a b = omega arith

pub nat-* : (a b : ℕ) → nat (a * b) ≈ nat a *ℚ nat b
nat-* a b = omega arith

pub nat-− : {a b : ℕ} → b ≤ a → nat (a - b) ≈ nat a -ℚ nat b
nat-− h = omega arith

pub nat_max : (a b : ℕ) → nat (max a b) ≈ maxℚ (nat a) (nat b)
nat_max a b = omega arith

pub nat_min : (a b : ℕ) → nat (min a b) ≈ minℚ (nat a) (nat b)
nat_min a b = omega arith

-- a difference of naturals that stops at 0
pub nat_monus : (a b : ℕ) → nat (a - b) ≈ maxℚ (nat 0) (nat a -ℚ nat b)
nat_monus a b = omega arith

-- Integers.

-- a less b
difference : ℕ → ℕ → ℚ
difference a b = record { plus = a; minus = b; den = 1; positive = omega arith }

int_is : (z : ℤ) → int z ≡ difference (up z) (down z)
unfolding difference
int_is (pos n) = refl
int_is (negsuc n) = refl

pub int-+ : (y z : ℤ) → int (y +ℤ z) ≈ int y +ℚ int z
unfolding difference
int-+ y z = rw (int_is (y +ℤ z), int_is y, int_is z) (omega (arith, ints))

pub int_neg : (z : ℤ) → int (neg_ℤ z) ≈ negℚ (int z)
unfolding difference
int_neg z = rw (int_is (neg_ℤ z), int_is z) (omega (arith, ints))

pub int-− : (y z : ℤ) → int (y -ℤ z) ≈ int y -ℚ int z
unfolding difference
int-− y z = rw (int_is (y -ℤ z), int_is y, int_is z) (omega (arith, ints))

pub int-* : (y z : ℤ) → int (y *ℤ z) ≈ int y *ℚ int z
unfolding difference
int-* y z = rw (int_is (y *ℤ z), int_is y, int_is z) (omega (arith, ints))

pub int_max : (y z : ℤ) → int (maxZ y z) ≈ maxℚ (int y) (int z)
unfolding difference
int_max y z = rw (int_is (maxZ y z), int_is y, int_is z) (omega (arith, ints, clamps))

pub int_min : (y z : ℤ) → int (minZ y z) ≈ minℚ (int y) (int z)
unfolding difference
int_min y z = rw (int_is (minZ y z), int_is y, int_is z) (omega (arith, ints, clamps))

pub int-≤ : {y z : ℤ} → y ≤ℤ z → int y ≤ℚ int z
unfolding difference
int-≤ {y} {z} h = rw (int_is y, int_is z) (omega (arith, ints))

pub int-< : {y z : ℤ} → y <ℤ z → int y <ℚ int z
unfolding difference
int-< {y} {z} h = rw (int_is y, int_is z) (omega (arith, ints))

pub ≤_int : (y z : ℤ) → int y ≤ℚ int z → y ≤ℤ z
unfolding difference
≤_int y z h = let k : difference (up y) (down y) ≤ℚ difference (up z) (down z) = rw (int_is y, int_is z) at h in omega (arith, ints, k.le)
