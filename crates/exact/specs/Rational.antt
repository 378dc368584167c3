-- Exact rational numbers: a number is (plus − minus) / den, with a positive den. Two records may be one number: `x ≈ y` says so.
--   nat, int                  naturals and integers as numbers
--   +ℚ -ℚ negℚ *ℚ ÷ℚ          sum, difference, opposite, product, quotient (x ÷ℚ 0 is 0)
--   minℚ maxℚ absℚ            least, greatest, size without sign
--   ≤ℚ <ℚ ≈                   order and equality, by cross multiplication
--   Near x y e                x and y are at most e apart
use Rattle.std.specs.Prelude.{◌≡◌, ℕ, zero, suc, ◌+◌, ◌-◌, ◌*◌, ◌<◌, ◌≤◌, min, max, ℤ, pos, negsuc}
use Rattle.std.proofs.Common.{mul-pos, zero-lt-suc, arith}

pub record ℚ : Type 0 where
  pub plus : ℕ
  pub minus : ℕ
  pub den : ℕ
  pub positive : 0 < den

infixl 60 ◌+ℚ◌ ◌-ℚ◌
infixl 70 ◌*ℚ◌ ◌÷ℚ◌
infix 50 ◌≤ℚ◌ ◌<ℚ◌ ◌≈◌
pub record ◌≤ℚ◌ (x y : ℚ) : Type 0 where
  pub le : x.plus * y.den + y.minus * x.den ≤ y.plus * x.den + x.minus * y.den

pub record ◌<ℚ◌ (x y : ℚ) : Type 0 where
  pub lt : x.plus * y.den + y.minus * x.den < y.plus * x.den + x.minus * y.den

pub record ◌≈◌ (x y : ℚ) : Type 0 where
  pub eq : x.plus * y.den + y.minus * x.den ≡ y.plus * x.den + x.minus * y.den

abbrev pub nat : ℕ → ℚ
nat n = record { plus = n; minus = 0; den = 1; positive = omega arith }

abbrev pub ◌+ℚ◌ : ℚ → ℚ → ℚ
x +ℚ y = record { plus = x.plus * y.den + y.plus * x.den; minus = x.minus * y.den + y.minus * x.den; den = x.den * y.den; positive = mul-pos x.positive y.positive }

abbrev pub negℚ : ℚ → ℚ
negℚ x = record { plus = x.minus; minus = x.plus; den = x.den; positive = x.positive }

abbrev pub ◌-ℚ◌ : ℚ → ℚ → ℚ
x -ℚ y = x +ℚ negℚ y

abbrev pub int : ℤ → ℚ
int (pos n) = nat n
int (negsuc n) = negℚ (nat (suc n))

abbrev pub ◌*ℚ◌ : ℚ → ℚ → ℚ
x *ℚ y = record { plus = x.plus * y.plus + x.minus * y.minus; minus = x.plus * y.minus + x.minus * y.plus; den = x.den * y.den; positive = mul-pos x.positive y.positive }

-- x times d/n, and 0 where n is 0
abbrev pub times_over : ℚ → ℕ → ℕ → ℚ
times_over x d zero = nat 0
times_over x d (suc n) = record { plus = x.plus * d; minus = x.minus * d; den = x.den * suc n; positive = mul-pos x.positive (zero-lt-suc n) }

-- of the two terms the one for y's sign counts, and the other is 0
abbrev pub ◌÷ℚ◌ : ℚ → ℚ → ℚ
x ÷ℚ y = times_over x y.den (y.plus - y.minus) -ℚ times_over x y.den (y.minus - y.plus)

abbrev pub minℚ : ℚ → ℚ → ℚ
minℚ x y = record { plus = min (x.plus * y.den + y.minus * x.den) (y.plus * x.den + x.minus * y.den); minus = x.minus * y.den + y.minus * x.den; den = x.den * y.den; positive = mul-pos x.positive y.positive }

abbrev pub maxℚ : ℚ → ℚ → ℚ
maxℚ x y = record { plus = max (x.plus * y.den + y.minus * x.den) (y.plus * x.den + x.minus * y.den); minus = x.minus * y.den + y.minus * x.den; den = x.den * y.den; positive = mul-pos x.positive y.positive }

abbrev pub absℚ : ℚ → ℚ
absℚ x = record { plus = (x.plus - x.minus) + (x.minus - x.plus); minus = 0; den = x.den; positive = x.positive }

pub record Near (x y e : ℚ) : Type 0 where
  pub within : absℚ (x -ℚ y) ≤ℚ e
