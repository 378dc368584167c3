-- The order of the exact numbers, their equality, and nearness as two inequalities.
use Rattle.std.proofs.Common.{◌≡◌, ℕ, ◌+◌, ◌-◌, ◌*◌, ◌≤◌, ◌⊎◌, ap, subst, inl, inr, ⊎_elim, mul-le-mul_right, lt_of_mul-lt-mul_right, mul-lt-mul_of_pos_right, le_of_mul-le-mul_right, arith}
use native.Mathlib.Decide.{dec_le}
use Rattle.exact.specs.Rational.{ℚ, ◌≤ℚ◌, ◌<ℚ◌, ◌≈◌, ◌+ℚ◌, ◌-ℚ◌, absℚ, Near}

pub ≤_refl : (x : ℚ) → x ≤ℚ x
≤_refl x = omega arith

pub ≤_trans : {x y z : ℚ} → x ≤ℚ y → y ≤ℚ z → x ≤ℚ z
≤_trans {x} {y} {z} h k = record { le = le_of_mul-le-mul_right {k = y.den} (omega (arith, mul-le-mul_right z.den h.le, mul-le-mul_right x.den k.le)) y.positive }

pub ≤_antisym : {x y : ℚ} → x ≤ℚ y → y ≤ℚ x → x ≈ y
≤_antisym h k = omega arith

-- of two naturals one is at most the other
pub either-≤ : (a b : ℕ) → (a ≤ b) ⊎ (b ≤ a)
either-≤ a b = elim (dec_le a b) [ yes h ↦ inl h | no h ↦ inr (omega arith) ]

pub ≤_total : (x y : ℚ) → (x ≤ℚ y) ⊎ (y ≤ℚ x)
≤_total x y = ⊎_elim (λ h. inl (record { le = h })) (λ h. inr (record { le = omega arith })) (either-≤ (x.plus * y.den + y.minus * x.den) (y.plus * x.den + x.minus * y.den))

pub ≈_refl : (x : ℚ) → x ≈ x
≈_refl x = omega arith

pub ≈_sym : {x y : ℚ} → x ≈ y → y ≈ x
≈_sym h = omega arith

pub ≡→≈ : {x y : ℚ} → x ≡ y → x ≈ y
≡→≈ {x} h = subst (λ (z : ℚ). x ≈ z) h (≈_refl x)

pub ≈→≤ : {x y : ℚ} → x ≈ y → x ≤ℚ y
≈→≤ h = omega arith

pub ≈→≥ : {x y : ℚ} → x ≈ y → y ≤ℚ x
≈→≥ h = omega arith

pub ≈_trans : {x y z : ℚ} → x ≈ y → y ≈ z → x ≈ z
≈_trans h k = ≤_antisym (≤_trans (≈→≤ h) (≈→≤ k)) (≤_trans (≈→≥ k) (≈→≥ h))

pub <→≤ : {x y : ℚ} → x <ℚ y → x ≤ℚ y
<→≤ h = omega arith

pub <-≤_trans : {x y z : ℚ} → x <ℚ y → y ≤ℚ z → x <ℚ z
<-≤_trans {x} {y} {z} h k = record { lt = lt_of_mul-lt-mul_right y.den (omega (arith, mul-lt-mul_of_pos_right h.lt z.positive, mul-le-mul_right x.den k.le)) }

pub ≤-<_trans : {x y z : ℚ} → x ≤ℚ y → y <ℚ z → x <ℚ z
≤-<_trans {x} {y} {z} h k = record { lt = lt_of_mul-lt-mul_right y.den (omega (arith, mul-le-mul_right z.den h.le, mul-lt-mul_of_pos_right k.lt x.positive)) }

pub <_or-≥ : (x y : ℚ) → (x <ℚ y) ⊎ (y ≤ℚ x)
<_or-≥ x y = elim (dec_le (y.plus * x.den + x.minus * y.den) (x.plus * y.den + y.minus * x.den)) [ yes h ↦ inr (record { le = omega arith }) | no h ↦ inl (record { lt = omega arith }) ]

pub <→≱ : {x y : ℚ} → x <ℚ y → ¬ (y ≤ℚ x)
<→≱ h k = omega arith

pub near_out : {x y e : ℚ} → Near x y e → (x ≤ℚ y +ℚ e) × (y ≤ℚ x +ℚ e)
near_out {x} {y} {e} h = (record { le = omega (arith, h.within.le, mul-le-mul_right e.den above) }, record { le = omega (arith, h.within.le, mul-le-mul_right e.den below) })
  where
    above : x.plus * y.den + y.minus * x.den ≤ (absℚ (x -ℚ y)).plus + (x.minus * y.den + y.plus * x.den)
    above = omega arith

    below : x.minus * y.den + y.plus * x.den ≤ (absℚ (x -ℚ y)).plus + (x.plus * y.den + y.minus * x.den)
    below = omega arith

-- the distance of two naturals makes up for the lesser
distance : (a b : ℕ) → (((a - b) + (b - a)) + b ≡ a) ⊎ (((a - b) + (b - a)) + a ≡ b)
distance a b = ⊎_elim (λ h. inr (omega arith)) (λ h. inl (omega arith)) (either-≤ a b)

pub near_in : {x y e : ℚ} → x ≤ℚ y +ℚ e → y ≤ℚ x +ℚ e → Near x y e
near_in {x} {y} {e} h k =
    ⊎_elim
    (λ s. record { within = record { le = omega (arith, h.le, ap (λ (n : ℕ). n * e.den) s) } })
    (λ s. record { within = record { le = omega (arith, k.le, ap (λ (n : ℕ). n * e.den) s) } })
    (distance (x.plus * y.den + y.minus * x.den) (x.minus * y.den + y.plus * x.den))
