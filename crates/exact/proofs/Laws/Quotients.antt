-- Laws of quotients of exact numbers, and the floors of quotients of whole numbers.
use Rattle.std.proofs.Common.{◌≡◌, ℕ, zero, suc, ◌+◌, ◌-◌, ◌*◌, ◌/◌, ◌<◌, ◌⊎◌, [], ◌∷◌, ℤ, pos, negsuc, refl, ap, inl, inr, ⊎_elim, div-mul-le_self, arith}
use native.Mathlib.Nat.{lt-div-mul-add}
use native.Mathlib.Decide.{ℕ_discrete}
use Rattle.std.specs.Int.{int_div_euclid}
use Rattle.exact.specs.Rational.{ℚ, ◌≤ℚ◌, ◌<ℚ◌, ◌≈◌, nat, int, ◌+ℚ◌, ◌-ℚ◌, negℚ, ◌*ℚ◌, ◌÷ℚ◌, times_over}
use Rattle.exact.proofs.Laws.Order.{≤_trans, ≤_antisym, ≈_refl, ≈_sym, ≈_trans, ≈→≤, ≈→≥, <→≤, <-≤_trans, <_or-≥, <→≱}
use Rattle.exact.proofs.Laws.Whole.{nat-<}
use Rattle.exact.proofs.Laws.Products.{≈_by, *_comm, *_assoc, *_zero, zero-*, neg-*, +-*, +-≈, *_mono, *_mono_left, *-≈, *_cancel}
use Rattle.exact.proofs.Linear.{linear, at, con, ◌⊕◌, neg, ◌≋◌}

pub zero_or_not : (y : ℚ) → (nat 0 ≈ y) ⊎ (¬ (nat 0 ≈ y))
zero_or_not y = elim (ℕ_discrete y.plus y.minus) [ yes e ↦ inl (record { eq = omega arith }) | no e ↦ inr (λ h. e (omega (arith, h.eq))) ]

quotient : (x y : ℚ) (p m : ℕ) → y.plus - y.minus ≡ p → y.minus - y.plus ≡ m → ¬ (nat 0 ≈ y) → (times_over x y.den p -ℚ times_over x y.den m) *ℚ y ≈ x
quotient x y zero zero h k s = absurd (s (record { eq = omega arith }))
quotient x y zero (suc m) h k s = ≈_by _ _ 1 (suc m * y.den) (omega arith) (omega arith) (omega (arith, ap (λ (n : ℕ). x.plus * y.den * n) rest, ap (λ (n : ℕ). x.minus * y.den * n) rest))
  where
    rest : y.minus ≡ y.plus + suc m
    rest = omega arith
quotient x y (suc p) zero h k s = ≈_by _ _ 1 (suc p * y.den) (omega arith) (omega arith) (omega (arith, ap (λ (n : ℕ). x.plus * y.den * n) rest, ap (λ (n : ℕ). x.minus * y.den * n) rest))
  where
    rest : y.plus ≡ y.minus + suc p
    rest = omega arith
quotient x y (suc p) (suc m) h k s = absurd (omega arith)

pub ÷-*_not_zero : (x : ℚ) {y : ℚ} → ¬ (nat 0 ≈ y) → (x ÷ℚ y) *ℚ y ≈ x
÷-*_not_zero x {y} s = quotient x y (y.plus - y.minus) (y.minus - y.plus) refl refl s

no_quotient : (x y : ℚ) (p m : ℕ) → p ≡ 0 → m ≡ 0 → times_over x y.den p -ℚ times_over x y.den m ≈ nat 0
no_quotient x y zero zero h k = omega arith
no_quotient x y zero (suc m) h k = absurd (omega arith)
no_quotient x y (suc p) m h k = absurd (omega arith)

pub ÷_zero : (x : ℚ) {y : ℚ} → nat 0 ≈ y → x ÷ℚ y ≈ nat 0
÷_zero x {y} s = no_quotient x y (y.plus - y.minus) (y.minus - y.plus) (omega (arith, s.eq)) (omega (arith, s.eq))

pub >0→not_zero : {y : ℚ} → nat 0 <ℚ y → ¬ (nat 0 ≈ y)
>0→not_zero s h = omega (arith, s.lt, h.eq)

pub ÷-* : (x : ℚ) {y : ℚ} → nat 0 <ℚ y → (x ÷ℚ y) *ℚ y ≈ x
÷-* x s = ÷-*_not_zero x (>0→not_zero s)

pub ÷-≤ : {x y z : ℚ} → nat 0 <ℚ y → x ≤ℚ z *ℚ y → x ÷ℚ y ≤ℚ z
÷-≤ {x} {y} s h = *_cancel y s (≤_trans (≈→≤ (÷-* x s)) h)

pub ≤-÷ : {x y z : ℚ} → nat 0 <ℚ y → z *ℚ y ≤ℚ x → z ≤ℚ x ÷ℚ y
≤-÷ {x} {y} s h = *_cancel y s (≤_trans h (≈→≥ (÷-* x s)))

pub ÷_mono : {x x' y : ℚ} → nat 0 <ℚ y → x ≤ℚ x' → x ÷ℚ y ≤ℚ x' ÷ℚ y
÷_mono {x} s h = ≤-÷ s (≤_trans (≈→≤ (÷-* x s)) h)

pub ÷-≥0 : {x y : ℚ} → nat 0 <ℚ y → nat 0 ≤ℚ x → nat 0 ≤ℚ x ÷ℚ y
÷-≥0 {x} {y} s h = ≤-÷ s (≤_trans (≈→≤ (zero-* y)) h)

pub ÷_pos : {x y : ℚ} → nat 0 <ℚ y → nat 0 <ℚ x → nat 0 <ℚ x ÷ℚ y
÷_pos {x} {y} s h = ⊎_elim (λ p. p) (λ n. absurd (<→≱ h (≤_trans (≈→≥ (÷-* x s)) (≤_trans (*_mono y (<→≤ s) n) (≈→≤ (zero-* y)))))) (<_or-≥ (nat 0) (x ÷ℚ y))

-- by a greater divisor less
pub ÷_falls : {x y y' : ℚ} → nat 0 ≤ℚ x → nat 0 <ℚ y → y ≤ℚ y' → x ÷ℚ y' ≤ℚ x ÷ℚ y
÷_falls {x} {y} {y'} p s h = ÷-≤ (<-≤_trans s h) (≤_trans (≈→≥ (÷-* x s)) (*_mono_left (x ÷ℚ y) (÷-≥0 s p) h))

pub shrink : (k : ℕ) → 0 < k → (x : ℚ) → nat k *ℚ (x ÷ℚ nat k) ≈ x
shrink k h x = ≈_trans (*_comm (nat k) (x ÷ℚ nat k)) (÷-* x (nat-< h))

-- a factor that is not zero cancels
pub *_cancel-≈ : {x z y : ℚ} → ¬ (nat 0 ≈ y) → x *ℚ y ≈ z *ℚ y → x ≈ z
*_cancel-≈ {x} {z} {y} s e = ⊎_elim above (λ h. ⊎_elim below (λ k. absurd (s (≤_antisym k h))) (<_or-≥ y (nat 0))) (<_or-≥ (nat 0) y)
  where
    above : nat 0 <ℚ y → x ≈ z
    above p = ≤_antisym (*_cancel y p (≈→≤ e)) (*_cancel y p (≈→≥ e))

    turned : x *ℚ negℚ y ≈ z *ℚ negℚ y
    turned = omega (arith, e.eq)

    below : y <ℚ nat 0 → x ≈ z
    below p = ≤_antisym (*_cancel (negℚ y) (record { lt = omega (arith, p.lt) }) (≈→≤ turned)) (*_cancel (negℚ y) (record { lt = omega (arith, p.lt) }) (≈→≥ turned))

-- what times the divisor is the dividend is the quotient
pub ÷_unique : {x y z : ℚ} → ¬ (nat 0 ≈ y) → z *ℚ y ≈ x → z ≈ x ÷ℚ y
÷_unique {x} s h = *_cancel-≈ s (≈_trans h (≈_sym (÷-*_not_zero x s)))

-- a product is zero only by a factor
pub *_not_zero : {x y : ℚ} → ¬ (nat 0 ≈ x) → ¬ (nat 0 ≈ y) → ¬ (nat 0 ≈ x *ℚ y)
*_not_zero {x} {y} s t e = s (*_cancel-≈ t (≈_trans (zero-* y) e))

pub zero-÷ : (y : ℚ) → nat 0 ÷ℚ y ≈ nat 0
zero-÷ y = ⊎_elim (λ e. ÷_zero (nat 0) e) (λ s. ≈_sym (÷_unique s (zero-* y))) (zero_or_not y)

pub ÷-≈ : {x y x' y' : ℚ} → x ≈ x' → y ≈ y' → x ÷ℚ y ≈ x' ÷ℚ y'
÷-≈ {x} {y} {x'} {y'} h k = ⊎_elim none some (zero_or_not y)
  where
    none : nat 0 ≈ y → x ÷ℚ y ≈ x' ÷ℚ y'
    none z = ≈_trans (÷_zero x z) (≈_sym (÷_zero x' (≈_trans z k)))

    some : ¬ (nat 0 ≈ y) → x ÷ℚ y ≈ x' ÷ℚ y'
    some s = ÷_unique (λ z. s (≈_trans z (≈_sym k))) (≈_trans (*-≈ (≈_refl (x ÷ℚ y)) (≈_sym k)) (≈_trans (÷-*_not_zero x s) h))

pub *-÷ : (x z y : ℚ) → x *ℚ (z ÷ℚ y) ≈ (x *ℚ z) ÷ℚ y
*-÷ x z y = ⊎_elim none some (zero_or_not y)
  where
    none : nat 0 ≈ y → x *ℚ (z ÷ℚ y) ≈ (x *ℚ z) ÷ℚ y
    none e = ≈_trans (*-≈ (≈_refl x) (÷_zero z e)) (≈_trans (*_zero x) (≈_sym (÷_zero (x *ℚ z) e)))

    some : ¬ (nat 0 ≈ y) → x *ℚ (z ÷ℚ y) ≈ (x *ℚ z) ÷ℚ y
    some s = ÷_unique s (≈_trans (*_assoc x (z ÷ℚ y) y) (*-≈ (≈_refl x) (÷-*_not_zero z s)))

pub +-÷ : (x z y : ℚ) → x ÷ℚ y +ℚ z ÷ℚ y ≈ (x +ℚ z) ÷ℚ y
+-÷ x z y = ⊎_elim none some (zero_or_not y)
  where
    none : nat 0 ≈ y → x ÷ℚ y +ℚ z ÷ℚ y ≈ (x +ℚ z) ÷ℚ y
    none e = linear (x ÷ℚ y ∷ z ÷ℚ y ∷ (x +ℚ z) ÷ℚ y ∷ []) (at 0 ≋ con 0 ∷ at 1 ≋ con 0 ∷ at 2 ≋ con 0 ∷ []) (at 0 ⊕ at 1 ≋ at 2) (λ d u w p h. omega arith) (÷_zero x e, (÷_zero z e, (÷_zero (x +ℚ z) e, tt)))

    some : ¬ (nat 0 ≈ y) → x ÷ℚ y +ℚ z ÷ℚ y ≈ (x +ℚ z) ÷ℚ y
    some s = ÷_unique s (≈_trans (+-* (x ÷ℚ y) (z ÷ℚ y) y) (+-≈ (÷-*_not_zero x s) (÷-*_not_zero z s)))

pub neg-÷ : (x y : ℚ) → negℚ (x ÷ℚ y) ≈ negℚ x ÷ℚ y
neg-÷ x y = ⊎_elim none some (zero_or_not y)
  where
    none : nat 0 ≈ y → negℚ (x ÷ℚ y) ≈ negℚ x ÷ℚ y
    none e = linear (x ÷ℚ y ∷ negℚ x ÷ℚ y ∷ []) (at 0 ≋ con 0 ∷ at 1 ≋ con 0 ∷ []) (neg (at 0) ≋ at 1) (λ d u w p h. omega arith) (÷_zero x e, (÷_zero (negℚ x) e, tt))

    some : ¬ (nat 0 ≈ y) → negℚ (x ÷ℚ y) ≈ negℚ x ÷ℚ y
    some s = ÷_unique s (≈_trans (neg-* (x ÷ℚ y) y) (linear ((x ÷ℚ y) *ℚ y ∷ x ∷ []) (at 0 ≋ at 1 ∷ []) (neg (at 0) ≋ neg (at 1)) (λ d u w p h. omega arith) (÷-*_not_zero x s, tt)))

pub −-÷ : (x z y : ℚ) → x ÷ℚ y -ℚ z ÷ℚ y ≈ (x -ℚ z) ÷ℚ y
−-÷ x z y = ≈_trans (+-≈ (≈_refl (x ÷ℚ y)) (neg-÷ z y)) (+-÷ x (negℚ z) y)

pub ÷_one : (x : ℚ) → x ÷ℚ nat 1 ≈ x
÷_one x = omega arith

pub ÷-÷ : (x y z : ℚ) → (x ÷ℚ y) ÷ℚ z ≈ x ÷ℚ (y *ℚ z)
÷-÷ x y z = ⊎_elim (λ e. none_left e) (λ s. ⊎_elim (λ e. none_right e) (λ t. some s t) (zero_or_not z)) (zero_or_not y)
  where
    none_left : nat 0 ≈ y → (x ÷ℚ y) ÷ℚ z ≈ x ÷ℚ (y *ℚ z)
    none_left e = ≈_trans (÷-≈ (÷_zero x e) (≈_refl z)) (≈_trans (zero-÷ z) (≈_sym (÷_zero x (≈_trans (≈_sym (zero-* z)) (*-≈ e (≈_refl z))))))

    none_right : nat 0 ≈ z → (x ÷ℚ y) ÷ℚ z ≈ x ÷ℚ (y *ℚ z)
    none_right e = ≈_trans (÷_zero (x ÷ℚ y) e) (≈_sym (÷_zero x (≈_trans (≈_sym (*_zero y)) (*-≈ (≈_refl y) e))))

    some : ¬ (nat 0 ≈ y) → ¬ (nat 0 ≈ z) → (x ÷ℚ y) ÷ℚ z ≈ x ÷ℚ (y *ℚ z)
    some s t = ÷_unique (*_not_zero s t) (≈_trans (*-≈ (≈_refl ((x ÷ℚ y) ÷ℚ z)) (*_comm y z)) (≈_trans (≈_sym (*_assoc ((x ÷ℚ y) ÷ℚ z) z y)) (≈_trans (*-≈ (÷-*_not_zero (x ÷ℚ y) t) (≈_refl y)) (÷-*_not_zero x s))))

-- Floors.

pub floor_low : (a b : ℕ) → 0 < b → nat (a / b) ≤ℚ nat a ÷ℚ nat b
floor_low a b h = ≤-÷ {x = nat a} {y = nat b} (nat-< h) (omega (arith, div-mul-le_self a b))

pub floor_high : (a b : ℕ) → 0 < b → nat a ÷ℚ nat b ≤ℚ nat (a / b) +ℚ nat 1
floor_high a b h = ÷-≤ {x = nat a} {y = nat b} (nat-< h) (omega (arith, lt-div-mul-add {a = a} h))

pub int_floor_low : (z : ℤ) (b : ℕ) → 0 < b → int (int_div_euclid z (pos b)) ≤ℚ int z ÷ℚ nat b
int_floor_low (pos a) b h = floor_low a b h
int_floor_low (negsuc a) b h = ≤-÷ {x = int (negsuc a)} {y = nat b} (nat-< h) (omega (arith, lt-div-mul-add {a = a} h))

pub int_floor_high : (z : ℤ) (b : ℕ) → 0 < b → int z ÷ℚ nat b ≤ℚ int (int_div_euclid z (pos b)) +ℚ nat 1
int_floor_high (pos a) b h = floor_high a b h
int_floor_high (negsuc a) b h = ÷-≤ {x = int (negsuc a)} {y = nat b} (nat-< h) (omega (arith, div-mul-le_self a b))
