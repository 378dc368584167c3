-- What the exact numbers are, said without their parts: by whole numerators and denominators, and by the order alone.
use Rattle.std.specs.Prelude.{◌≡◌, ◌↔◌, ℤ, pos, ◌+ℤ◌, ◌-ℤ◌, ◌*ℤ◌, neg_ℤ, ◌≤ℤ◌, ◌<ℤ◌}
use Rattle.exact.specs.Rational.{ℚ, ◌≤ℚ◌, ◌<ℚ◌, ◌≈◌, nat, int, ◌+ℚ◌, negℚ, ◌*ℚ◌, ◌÷ℚ◌, minℚ, maxℚ, absℚ, Near}

abbrev pub numer : ℚ → ℤ
numer x = pos x.plus -ℤ pos x.minus

abbrev pub denom : ℚ → ℤ
denom x = pos x.den

-- order, equality, sum, product and opposite are those of fractions
pub record AsFractions : Type 0 where
  pub positive : (x : ℚ) → pos 0 <ℤ denom x
  pub whole : (z : ℤ) → (numer (int z) ≡ z) × (denom (int z) ≡ pos 1)
  pub at_most : (x y : ℚ) → (x ≤ℚ y) ↔ ((numer x *ℤ denom y) ≤ℤ (numer y *ℤ denom x))
  pub less : (x y : ℚ) → (x <ℚ y) ↔ ((numer x *ℤ denom y) <ℤ (numer y *ℤ denom x))
  pub equal : (x y : ℚ) → (x ≈ y) ↔ (numer x *ℤ denom y ≡ numer y *ℤ denom x)
  pub sum : (x y : ℚ) → (numer (x +ℚ y) ≡ (numer x *ℤ denom y) +ℤ (numer y *ℤ denom x)) × (denom (x +ℚ y) ≡ denom x *ℤ denom y)
  pub product : (x y : ℚ) → (numer (x *ℚ y) ≡ numer x *ℤ numer y) × (denom (x *ℚ y) ≡ denom x *ℤ denom y)
  pub opposite : (x : ℚ) → (numer (negℚ x) ≡ neg_ℤ (numer x)) × (denom (negℚ x) ≡ denom x)

-- the quotient times the divisor is the dividend, unless the divisor is zero: then the quotient is zero
pub record UndoesProduct : Type 0 where
  pub by_other : (x y : ℚ) → ¬ (y ≈ nat 0) → (x ÷ℚ y) *ℚ y ≈ x
  pub by_zero : (x y : ℚ) → y ≈ nat 0 → x ÷ℚ y ≈ nat 0

-- what lies below both lies below the least of them, and so for the greatest, the size and the distance
pub record ByOrder : Type 0 where
  pub least : (x y z : ℚ) → (z ≤ℚ minℚ x y) ↔ ((z ≤ℚ x) × (z ≤ℚ y))
  pub greatest : (x y z : ℚ) → (maxℚ x y ≤ℚ z) ↔ ((x ≤ℚ z) × (y ≤ℚ z))
  pub size : (x z : ℚ) → (absℚ x ≤ℚ z) ↔ ((x ≤ℚ z) × (negℚ x ≤ℚ z))
  pub distance : (x y e : ℚ) → Near x y e ↔ ((x ≤ℚ y +ℚ e) × (y ≤ℚ x +ℚ e))
