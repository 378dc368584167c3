-- Laws of nearness: what keeps two numbers near, and how near.
use Rattle.std.proofs.Common.{ℕ, ◌/◌, ◌<◌, [], ◌∷◌, ℤ, pos, ⊎_elim, arith}
use Rattle.std.specs.Int.{int_div_euclid}
use Rattle.exact.specs.Rational.{ℚ, ◌≤ℚ◌, ◌<ℚ◌, ◌≈◌, nat, int, ◌+ℚ◌, ◌-ℚ◌, ◌*ℚ◌, ◌÷ℚ◌, minℚ, maxℚ, Near}
use Rattle.exact.proofs.Laws.Order.{≤_refl, ≤_trans, ≈_refl, ≈→≤, ≈→≥, near_out, near_in}
use Rattle.exact.proofs.Laws.Whole.{nat-<}
use Rattle.exact.proofs.Laws.Products.{*_comm, +-*, +_mono, *_mono}
use Rattle.exact.proofs.Laws.Quotients.{÷_mono, +-÷, floor_low, floor_high, int_floor_low, int_floor_high}
use Rattle.exact.proofs.Laws.Bounds.{min_left, min_right, min_either, left_max, right_max, max-≤}
use Rattle.exact.proofs.Linear.{linear, at, con, ◌⊕◌, ◌⊖◌, ◌≼◌, ◌≋◌, near}

pub near-≥0 : {x y e : ℚ} → Near x y e → nat 0 ≤ℚ e
near-≥0 {x} {y} {e} h = linear (x ∷ y ∷ e ∷ []) (near (at 0) (at 1) (at 2) ∷ []) (con 0 ≼ at 2) (λ d u w p h. omega arith) (h, tt)

pub near_same : {x y e : ℚ} → x ≈ y → nat 0 ≤ℚ e → Near x y e
near_same {x} {y} {e} h k = linear (x ∷ y ∷ e ∷ []) (at 0 ≋ at 1 ∷ con 0 ≼ at 2 ∷ []) (near (at 0) (at 1) (at 2)) (λ d u w p h. omega arith) (h, (k, tt))

pub near_sym : {x y e : ℚ} → Near x y e → Near y x e
near_sym h = near_in (near_out h).1 (near_out h).0

pub near-≈ : {x y x₁ y₁ e : ℚ} → x₁ ≈ x → y₁ ≈ y → Near x y e → Near x₁ y₁ e
near-≈ {x} {y} {x₁} {y₁} {e} h k n = linear (x ∷ y ∷ x₁ ∷ y₁ ∷ e ∷ []) (at 2 ≋ at 0 ∷ at 3 ≋ at 1 ∷ near (at 0) (at 1) (at 4) ∷ []) (near (at 2) (at 3) (at 4)) (λ d u w p h. omega arith) (h, (k, (n, tt)))

pub near_weaken : {x y e e' : ℚ} → Near x y e → e ≤ℚ e' → Near x y e'
near_weaken {x} {y} {e} {e'} n h = linear (x ∷ y ∷ e ∷ e' ∷ []) (near (at 0) (at 1) (at 2) ∷ at 2 ≼ at 3 ∷ []) (near (at 0) (at 1) (at 3)) (λ d u w p h. omega arith) (n, (h, tt))

pub near_trans : {x y z e e' : ℚ} → Near x y e → Near y z e' → Near x z (e +ℚ e')
near_trans {x} {y} {z} {e} {e'} m n = linear (x ∷ y ∷ z ∷ e ∷ e' ∷ []) (near (at 0) (at 1) (at 3) ∷ near (at 1) (at 2) (at 4) ∷ []) (near (at 0) (at 2) (at 3 ⊕ at 4)) (λ d u w p h. omega arith) (m, (n, tt))

-- x lies below y, and by no more than e
pub near_below : {x y e : ℚ} → x ≤ℚ y → y ≤ℚ x +ℚ e → Near x y e
near_below {x} {y} {e} h k = linear (x ∷ y ∷ e ∷ []) (at 0 ≼ at 1 ∷ at 1 ≼ at 0 ⊕ at 2 ∷ []) (near (at 0) (at 1) (at 2)) (λ d u w p h. omega arith) (h, (k, tt))

pub near-+ : {x y x' y' e e' : ℚ} → Near x y e → Near x' y' e' → Near (x +ℚ x') (y +ℚ y') (e +ℚ e')
near-+ {x} {y} {x'} {y'} {e} {e'} m n = linear (x ∷ y ∷ x' ∷ y' ∷ e ∷ e' ∷ []) (near (at 0) (at 1) (at 4) ∷ near (at 2) (at 3) (at 5) ∷ []) (near (at 0 ⊕ at 2) (at 1 ⊕ at 3) (at 4 ⊕ at 5)) (λ d u w p h. omega arith) (m, (n, tt))

pub near-− : {x y x' y' e e' : ℚ} → Near x y e → Near x' y' e' → Near (x -ℚ x') (y -ℚ y') (e +ℚ e')
near-− {x} {y} {x'} {y'} {e} {e'} m n = linear (x ∷ y ∷ x' ∷ y' ∷ e ∷ e' ∷ []) (near (at 0) (at 1) (at 4) ∷ near (at 2) (at 3) (at 5) ∷ []) (near (at 0 ⊖ at 2) (at 1 ⊖ at 3) (at 4 ⊕ at 5)) (λ d u w p h. omega arith) (m, (n, tt))

pub near-* : {x y e : ℚ} (z : ℚ) → nat 0 ≤ℚ z → Near x y e → Near (x *ℚ z) (y *ℚ z) (e *ℚ z)
near-* {x} {y} {e} z s n = near_in (≤_trans (*_mono z s (near_out n).0) (≈→≤ (+-* y e z))) (≤_trans (*_mono z s (near_out n).1) (≈→≤ (+-* x e z)))

pub near-*_left : {x y e : ℚ} (z : ℚ) → nat 0 ≤ℚ z → Near x y e → Near (z *ℚ x) (z *ℚ y) (z *ℚ e)
near-*_left {x} {y} {e} z s n = near_weaken (near-≈ (*_comm z x) (*_comm z y) (near-* z s n)) (≈→≤ (*_comm e z))

pub near_product : {x y x' y' e e' : ℚ} → nat 0 ≤ℚ x' → nat 0 ≤ℚ y → Near x y e → Near x' y' e' → Near (x *ℚ x') (y *ℚ y') (e *ℚ x' +ℚ y *ℚ e')
near_product {y = y} {x' = x'} s t m n = near_trans (near-* x' s m) (near-*_left y t n)

pub near-÷ : {x y e : ℚ} (z : ℚ) → nat 0 <ℚ z → Near x y e → Near (x ÷ℚ z) (y ÷ℚ z) (e ÷ℚ z)
near-÷ {x} {y} {e} z s n = near_in (≤_trans (÷_mono s (near_out n).0) (≈→≥ (+-÷ y e z))) (≤_trans (÷_mono s (near_out n).1) (≈→≥ (+-÷ x e z)))

-- least, greatest, and both at once bring numbers no further apart

pub near_min : {x y x' y' e : ℚ} → Near x y e → Near x' y' e → Near (minℚ x x') (minℚ y y') e
near_min {x} {y} {x'} {y'} {e} m n = near_in (less m n) (less (near_sym m) (near_sym n))
  where
    less : {a b a' b' : ℚ} → Near a b e → Near a' b' e → minℚ a a' ≤ℚ minℚ b b' +ℚ e
    less {a} {b} {a'} {b'} m n =
        ⊎_elim
        (λ q. ≤_trans (min_left a a') (≤_trans (near_out m).0 (+_mono (≈→≥ q) (≤_refl e))))
        (λ q. ≤_trans (min_right a a') (≤_trans (near_out n).0 (+_mono (≈→≥ q) (≤_refl e))))
        (min_either b b')

pub near_max : {x y x' y' e : ℚ} → Near x y e → Near x' y' e → Near (maxℚ x x') (maxℚ y y') e
near_max {x} {y} {x'} {y'} {e} m n = near_in (less m n) (less (near_sym m) (near_sym n))
  where
    less : {a b a' b' : ℚ} → Near a b e → Near a' b' e → maxℚ a a' ≤ℚ maxℚ b b' +ℚ e
    less {a} {b} {a'} {b'} m n =
        max-≤
        (≤_trans (near_out m).0 (+_mono (left_max b b') (≤_refl e)))
        (≤_trans (near_out n).0 (+_mono (right_max b b') (≤_refl e)))

pub near_min_with : {x y e : ℚ} (c : ℚ) → Near x y e → Near (minℚ c x) (minℚ c y) e
near_min_with c n = near_min (near_same (≈_refl c) (near-≥0 n)) n

pub near_max_with : {x y e : ℚ} (c : ℚ) → Near x y e → Near (maxℚ c x) (maxℚ c y) e
near_max_with c n = near_max (near_same (≈_refl c) (near-≥0 n)) n

-- both held within the same two bounds
pub near_held : {x y e : ℚ} (low high : ℚ) → Near x y e → Near (maxℚ low (minℚ high x)) (maxℚ low (minℚ high y)) e
near_held low high n = near_max_with low (near_min_with high n)

-- a floor, and a floor of what is near an exact dividend

pub near_floor : (a b : ℕ) → 0 < b → Near (nat (a / b)) (nat a ÷ℚ nat b) (nat 1)
near_floor a b h = near_below (floor_low a b h) (floor_high a b h)

pub near_int_floor : (z : ℤ) (b : ℕ) → 0 < b → Near (int (int_div_euclid z (pos b))) (int z ÷ℚ nat b) (nat 1)
near_int_floor z b h = near_below (int_floor_low z b h) (int_floor_high z b h)

pub near_floor_of : {x e : ℚ} (a b : ℕ) → 0 < b → Near (nat a) x e → Near (nat (a / b)) (x ÷ℚ nat b) (nat 1 +ℚ e ÷ℚ nat b)
near_floor_of a b h n = near_trans (near_floor a b h) (near-÷ (nat b) (nat-< h) n)

pub near_int_floor_of : {x e : ℚ} (z : ℤ) (b : ℕ) → 0 < b → Near (int z) x e → Near (int (int_div_euclid z (pos b))) (x ÷ℚ nat b) (nat 1 +ℚ e ÷ℚ nat b)
near_int_floor_of z b h n = near_trans (near_int_floor z b h) (near-÷ (nat b) (nat-< h) n)
