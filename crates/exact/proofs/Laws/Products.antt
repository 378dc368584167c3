-- Laws of sums and products of exact numbers.
use Rattle.std.proofs.Common.{◌≡◌, ℕ, ◌+◌, ◌-◌, ◌*◌, ◌<◌, ◌≤◌, [], ◌∷◌, ap, mul-le-mul_right, mul-lt-mul_of_pos_right, le_of_mul-le-mul_right, arith}
use native.Mathlib.Nat.{eq_of_mul-eq-mul_right}
use Rattle.exact.specs.Rational.{ℚ, ◌≤ℚ◌, ◌<ℚ◌, ◌≈◌, nat, ◌+ℚ◌, ◌-ℚ◌, negℚ, ◌*ℚ◌}
use Rattle.exact.proofs.Laws.Order.{≤_trans, ≤_antisym, ≈_trans, ≈→≤, ≈→≥}
use Rattle.exact.proofs.Linear.{linear, at, ◌⊕◌, ◌⊖◌, ◌≼◌}

-- Equations.

-- one number in two records: their parts agree over the factors k and l
pub ≈_by : (x y : ℚ) (k l : ℕ) → 0 < k → x.den * k ≡ y.den * l → x.plus * k + y.minus * l ≡ y.plus * l + x.minus * k → x ≈ y
≈_by x y k l z d n = record { eq = eq_of_mul-eq-mul_right k z _ _ (omega (arith, ap (λ (m : ℕ). m * y.den) n, ap (λ (m : ℕ). y.minus * m) d, ap (λ (m : ℕ). y.plus * m) d)) }

pub +_comm : (x y : ℚ) → x +ℚ y ≈ y +ℚ x
+_comm x y = omega arith

pub +_assoc : (x y z : ℚ) → (x +ℚ y) +ℚ z ≈ x +ℚ (y +ℚ z)
+_assoc x y z = omega arith

pub *_comm : (x y : ℚ) → x *ℚ y ≈ y *ℚ x
*_comm x y = omega arith

pub *_assoc : (x y z : ℚ) → (x *ℚ y) *ℚ z ≈ x *ℚ (y *ℚ z)
*_assoc x y z = omega arith

pub *_one : (x : ℚ) → nat 1 *ℚ x ≈ x
*_one x = omega arith

pub *_zero : (x : ℚ) → x *ℚ nat 0 ≈ nat 0
*_zero x = omega arith

pub zero-* : (x : ℚ) → nat 0 *ℚ x ≈ nat 0
zero-* x = omega arith

pub neg-* : (x y : ℚ) → negℚ x *ℚ y ≈ negℚ (x *ℚ y)
neg-* x y = omega arith

pub *_neg : (x y : ℚ) → x *ℚ negℚ y ≈ negℚ (x *ℚ y)
*_neg x y = omega arith

pub *-+ : (x y z : ℚ) → x *ℚ (y +ℚ z) ≈ x *ℚ y +ℚ x *ℚ z
*-+ x y z = ≈_by _ _ x.den 1 x.positive (omega arith) (omega arith)

pub +-* : (x y z : ℚ) → (x +ℚ y) *ℚ z ≈ x *ℚ z +ℚ y *ℚ z
+-* x y z = ≈_by _ _ z.den 1 z.positive (omega arith) (omega arith)

pub *-− : (x y z : ℚ) → (x -ℚ y) *ℚ z ≈ x *ℚ z -ℚ y *ℚ z
*-− x y z = ≈_by _ _ z.den 1 z.positive (omega arith) (omega arith)

pub difference_of_squares : (x y : ℚ) → (y -ℚ x) *ℚ (y +ℚ x) ≈ y *ℚ y -ℚ x *ℚ x
difference_of_squares x y = ≈_by _ _ 1 1 (omega arith) (omega arith) (omega arith)

-- Order.

-- two differences that are not negative have such a product
pub cross : {a b c d : ℕ} → a ≤ b → c ≤ d → a * d + b * c ≤ b * d + a * c
cross {a} {b} {c} {d} h k = omega (arith, ap (λ (n : ℕ). a * n) rest, ap (λ (n : ℕ). b * n) rest, mul-le-mul_right (d - c) h)
  where
    rest : d ≡ c + (d - c)
    rest = omega arith

cross-< : {a b c d : ℕ} → a < b → c < d → b * c + a * d < b * d + a * c
cross-< {a} {b} {c} {d} h k = omega (arith, ap (λ (n : ℕ). a * n) rest, ap (λ (n : ℕ). b * n) rest, mul-lt-mul_of_pos_right {k = d - c} h (omega arith))
  where
    rest : d ≡ c + (d - c)
    rest = omega arith

pub +_mono : {x y x' y' : ℚ} → x ≤ℚ x' → y ≤ℚ y' → x +ℚ y ≤ℚ x' +ℚ y'
+_mono {x} {y} {x'} {y'} h k = linear (x ∷ y ∷ x' ∷ y' ∷ []) (at 0 ≼ at 2 ∷ at 1 ≼ at 3 ∷ []) (at 0 ⊕ at 1 ≼ at 2 ⊕ at 3) (λ d u w p h. omega arith) (h, (k, tt))

pub −_mono : {x y x' y' : ℚ} → x ≤ℚ x' → y' ≤ℚ y → x -ℚ y ≤ℚ x' -ℚ y'
−_mono {x} {y} {x'} {y'} h k = linear (x ∷ y ∷ x' ∷ y' ∷ []) (at 0 ≼ at 2 ∷ at 3 ≼ at 1 ∷ []) (at 0 ⊖ at 1 ≼ at 2 ⊖ at 3) (λ d u w p h. omega arith) (h, (k, tt))

pub neg_mono : {x y : ℚ} → x ≤ℚ y → negℚ y ≤ℚ negℚ x
neg_mono h = omega (arith, h.le)

pub neg-≈ : {x y : ℚ} → x ≈ y → negℚ x ≈ negℚ y
neg-≈ h = omega (arith, h.eq)

pub +-≈ : {x y x' y' : ℚ} → x ≈ x' → y ≈ y' → x +ℚ y ≈ x' +ℚ y'
+-≈ h k = ≤_antisym (+_mono (≈→≤ h) (≈→≤ k)) (+_mono (≈→≥ h) (≈→≥ k))

pub −-≈ : {x y x' y' : ℚ} → x ≈ x' → y ≈ y' → x -ℚ y ≈ x' -ℚ y'
−-≈ h k = ≤_antisym (−_mono (≈→≤ h) (≈→≥ k)) (−_mono (≈→≥ h) (≈→≤ k))

pub *_mono : {x y : ℚ} (z : ℚ) → nat 0 ≤ℚ z → x ≤ℚ y → x *ℚ z ≤ℚ y *ℚ z
*_mono {x} {y} z s h = record { le = omega (arith, mul-le-mul_right z.den (cross h.le sign)) }
  where
    sign : z.minus ≤ z.plus
    sign = omega (arith, s.le)

pub *_mono_left : {x y : ℚ} (z : ℚ) → nat 0 ≤ℚ z → x ≤ℚ y → z *ℚ x ≤ℚ z *ℚ y
*_mono_left {x} {y} z s h = ≤_trans (≈→≤ (*_comm z x)) (≤_trans (*_mono z s h) (≈→≤ (*_comm y z)))

pub *_mono₂ : {x y x' y' : ℚ} → nat 0 ≤ℚ x → nat 0 ≤ℚ y' → x ≤ℚ x' → y ≤ℚ y' → x *ℚ y ≤ℚ x' *ℚ y'
*_mono₂ {x} {y} {x'} {y'} s t h k = ≤_trans (*_mono_left x s k) (*_mono y' t h)

pub *-≥0 : {x y : ℚ} → nat 0 ≤ℚ x → nat 0 ≤ℚ y → nat 0 ≤ℚ x *ℚ y
*-≥0 {x} {y} s t = ≤_trans (≈→≥ (zero-* y)) (*_mono y t s)

pub *_pos : {x y : ℚ} → nat 0 <ℚ x → nat 0 <ℚ y → nat 0 <ℚ x *ℚ y
*_pos {x} {y} s t = record { lt = omega (arith, uncrossed) }
  where
    uncrossed : x.plus * y.minus + x.minus * y.plus < x.plus * y.plus + x.minus * y.minus
    uncrossed = cross-< (omega (arith, s.lt)) (omega (arith, t.lt))

pub *-≈ : {x y x' y' : ℚ} → x ≈ x' → y ≈ y' → x *ℚ y ≈ x' *ℚ y'
*-≈ {x} {y} {x'} {y'} h k = ≈_trans (onto y h) (≈_trans (*_comm x' y) (≈_trans (onto x' k) (*_comm y' x')))
  where
    onto : {a b : ℚ} (z : ℚ) → a ≈ b → a *ℚ z ≈ b *ℚ z
    onto z e = record { eq = omega (arith, ap (λ (n : ℕ). n * (z.plus * z.den)) e.eq, ap (λ (n : ℕ). n * (z.minus * z.den)) e.eq) }

uncross : {a b c d : ℕ} → c < d → a * d + b * c ≤ b * d + a * c → a ≤ b
uncross {a} {b} {c} {d} h k = le_of_mul-le-mul_right {k = d - c} (omega (arith, ap (λ (n : ℕ). a * n) rest, ap (λ (n : ℕ). b * n) rest)) (omega arith)
  where
    rest : d ≡ c + (d - c)
    rest = omega arith

pub *_cancel : {x y : ℚ} (z : ℚ) → nat 0 <ℚ z → x *ℚ z ≤ℚ y *ℚ z → x ≤ℚ y
*_cancel {x} {y} z s h = record { le = uncross sign (le_of_mul-le-mul_right {k = z.den} (omega (arith, h.le)) z.positive) }
  where
    sign : z.minus < z.plus
    sign = omega (arith, s.lt)
