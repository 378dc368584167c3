-- Laws of the least, the greatest and the size of exact numbers.
use Rattle.std.proofs.Common.{◌≡◌, ℕ, ◌+◌, ◌*◌, ◌≤◌, ◌⊎◌, ap, inl, inr, ⊎_elim, mul-le-mul_right, mul-pos, arith}
use Rattle.exact.specs.Rational.{ℚ, ◌≤ℚ◌, ◌≈◌, nat, negℚ, minℚ, maxℚ, absℚ}
use Rattle.exact.proofs.Laws.Order.{≤_trans, ≤_antisym, ≈→≤, ≈→≥, either-≤}

-- Least and greatest.

-- x and y brought to one denominator, so that only `plus` tells them apart, and a number with n in its place
abbrev place : ℚ → ℚ → ℕ
place x y = x.plus * y.den + y.minus * x.den

abbrev placed : ℚ → ℚ → ℕ → ℚ
placed x y n = record { plus = n; minus = x.minus * y.den + y.minus * x.den; den = x.den * y.den; positive = mul-pos x.positive y.positive }

below_left : (x y : ℚ) {n : ℕ} → n ≤ place x y → placed x y n ≤ℚ x
below_left x y h = record { le = omega (arith, mul-le-mul_right x.den h) }

above_left : (x y : ℚ) {n : ℕ} → place x y ≤ n → x ≤ℚ placed x y n
above_left x y h = record { le = omega (arith, mul-le-mul_right x.den h) }

below_right : (x y : ℚ) {n : ℕ} → n ≤ place y x → placed x y n ≤ℚ y
below_right x y h = record { le = omega (arith, mul-le-mul_right y.den h) }

above_right : (x y : ℚ) {n : ℕ} → place y x ≤ n → y ≤ℚ placed x y n
above_right x y h = record { le = omega (arith, mul-le-mul_right y.den h) }

pub min_left : (x y : ℚ) → minℚ x y ≤ℚ x
min_left x y = below_left x y (omega arith)

pub min_right : (x y : ℚ) → minℚ x y ≤ℚ y
min_right x y = below_right x y (omega arith)

pub left_max : (x y : ℚ) → x ≤ℚ maxℚ x y
left_max x y = above_left x y (omega arith)

pub right_max : (x y : ℚ) → y ≤ℚ maxℚ x y
right_max x y = above_right x y (omega arith)

pub min_either : (x y : ℚ) → (minℚ x y ≈ x) ⊎ (minℚ x y ≈ y)
min_either x y = ⊎_elim (λ h. inl (≤_antisym (min_left x y) (above_left x y (omega arith)))) (λ h. inr (≤_antisym (min_right x y) (above_right x y (omega arith)))) (either-≤ (place x y) (place y x))

pub max_either : (x y : ℚ) → (maxℚ x y ≈ x) ⊎ (maxℚ x y ≈ y)
max_either x y = ⊎_elim (λ h. inr (≤_antisym (below_right x y (omega arith)) (right_max x y))) (λ h. inl (≤_antisym (below_left x y (omega arith)) (left_max x y))) (either-≤ (place x y) (place y x))

pub ≤_min : {x y z : ℚ} → z ≤ℚ x → z ≤ℚ y → z ≤ℚ minℚ x y
≤_min {x} {y} h k = ⊎_elim (λ e. ≤_trans h (≈→≥ e)) (λ e. ≤_trans k (≈→≥ e)) (min_either x y)

pub max-≤ : {x y z : ℚ} → x ≤ℚ z → y ≤ℚ z → maxℚ x y ≤ℚ z
max-≤ {x} {y} h k = ⊎_elim (λ e. ≤_trans (≈→≤ e) h) (λ e. ≤_trans (≈→≤ e) k) (max_either x y)

pub min_mono : {x y x' y' : ℚ} → x ≤ℚ x' → y ≤ℚ y' → minℚ x y ≤ℚ minℚ x' y'
min_mono {x} {y} h k = ≤_min (≤_trans (min_left x y) h) (≤_trans (min_right x y) k)

pub max_mono : {x y x' y' : ℚ} → x ≤ℚ x' → y ≤ℚ y' → maxℚ x y ≤ℚ maxℚ x' y'
max_mono {x' = x'} {y' = y'} h k = max-≤ (≤_trans h (left_max x' y')) (≤_trans k (right_max x' y'))

pub min-≈ : {x y x' y' : ℚ} → x ≈ x' → y ≈ y' → minℚ x y ≈ minℚ x' y'
min-≈ h k = ≤_antisym (min_mono (≈→≤ h) (≈→≤ k)) (min_mono (≈→≥ h) (≈→≥ k))

pub max-≈ : {x y x' y' : ℚ} → x ≈ x' → y ≈ y' → maxℚ x y ≈ maxℚ x' y'
max-≈ h k = ≤_antisym (max_mono (≈→≤ h) (≈→≤ k)) (max_mono (≈→≥ h) (≈→≥ k))

-- Size.

pub ≤_abs : (x : ℚ) → x ≤ℚ absℚ x
≤_abs x = record { le = omega (arith, mul-le-mul_right x.den less) }
  where
    less : x.plus ≤ (absℚ x).plus + x.minus
    less = omega arith

pub neg-≤_abs : (x : ℚ) → negℚ x ≤ℚ absℚ x
neg-≤_abs x = record { le = omega (arith, mul-le-mul_right x.den less) }
  where
    less : x.minus ≤ (absℚ x).plus + x.plus
    less = omega arith

pub abs_either : (x : ℚ) → (absℚ x ≈ x) ⊎ (absℚ x ≈ negℚ x)
abs_either x =
    ⊎_elim
    (λ h. inr (record { eq = omega (arith, ap (λ (n : ℕ). n * x.den) (below h)) }))
    (λ h. inl (record { eq = omega (arith, ap (λ (n : ℕ). n * x.den) (above h)) }))
    (either-≤ x.plus x.minus)
  where
    below : x.plus ≤ x.minus → (absℚ x).plus + x.plus ≡ x.minus
    below h = omega arith

    above : x.minus ≤ x.plus → (absℚ x).plus + x.minus ≡ x.plus
    above h = omega arith

pub abs-≤ : {x y : ℚ} → x ≤ℚ y → negℚ x ≤ℚ y → absℚ x ≤ℚ y
abs-≤ {x} h k = ⊎_elim (λ e. ≤_trans (≈→≤ e) h) (λ e. ≤_trans (≈→≤ e) k) (abs_either x)

pub abs-≥0 : (x : ℚ) → nat 0 ≤ℚ absℚ x
abs-≥0 x = omega arith
