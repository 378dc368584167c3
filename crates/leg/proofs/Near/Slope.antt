-- How a multiple, the least of two, the exact weight and the exact drag go with what they are taken of.
use Rattle.std.proofs.Common.{ℕ, ◌*◌, ◌^◌, ◌<◌, ◌≤◌, [], ◌∷◌, ⊎_elim, arith}
use Rattle.exact.specs.Rational.{ℚ, nat, ◌+ℚ◌, ◌-ℚ◌, ◌*ℚ◌, ◌÷ℚ◌, minℚ, ◌≤ℚ◌, ◌<ℚ◌, ◌≈◌}
use Rattle.exact.proofs.Laws.{≤_trans, ≈→≥, <→≤, nat-≥0, nat-≤, nat-<, +-*, *_assoc, *-−, *-≥0, *_mono, *_mono_left, *_mono₂, difference_of_squares, ÷-*, ÷-≤, ÷-≥0, ÷_mono, min_left, min_right, min_either}
use Rattle.exact.proofs.Linear.{linear, at, ◌⊕◌, ◌⊖◌, ◌⊛◌, ◌≼◌, ◌≋◌}
use Rattle.leg.specs.Exact.{exact_weight, exact_parasitic, exact_induced, exact_drag_of}
use Rattle.leg.specs.Nearness.{DragBounds}
use Rattle.leg.proofs.Near.Drag.{exact_loading}

pub more : {x x' : ℚ} → x ≤ℚ x' → nat 0 ≤ℚ x' -ℚ x
more h = omega arith

-- m times over b, where that is at most t
module _ (m b t : ℕ) (p : 0 < b) (q : m ≤ t * b) (x x' : ℚ) (h : x ≤ℚ x') where
  pub scaled_rises : x *ℚ nat m ÷ℚ nat b ≤ℚ x' *ℚ nat m ÷ℚ nat b
  scaled_rises = search (arith, ÷_mono, nat-<, *_mono, nat-≥0)

  steeper : x' *ℚ nat m ≤ℚ (x *ℚ nat m ÷ℚ nat b +ℚ nat t *ℚ (x' -ℚ x)) *ℚ nat b
  steeper =
      ≤_trans
      (linear (x' *ℚ nat m ∷ x *ℚ nat m ∷ (x' -ℚ x) *ℚ nat m ∷ (x' -ℚ x) *ℚ nat (t * b) ∷ nat t *ℚ (x' -ℚ x) *ℚ nat b ∷ (x *ℚ nat m ÷ℚ nat b) *ℚ nat b ∷ [])
      (at 2 ≋ at 0 ⊖ at 1 ∷ at 2 ≼ at 3 ∷ at 3 ≋ at 4 ∷ at 5 ≋ at 1 ∷ [])
      (at 0 ≼ at 5 ⊕ at 4)
      (λ d u w p h. omega arith)
      (*-− x' x (nat m), (*_mono_left (x' -ℚ x) (more h) (nat-≤ q), (omega arith, (÷-* (x *ℚ nat m) {y = nat b} (nat-< p), tt)))))
      (≈→≥ (+-* (x *ℚ nat m ÷ℚ nat b) (nat t *ℚ (x' -ℚ x)) (nat b)))

  pub scaled_gains : x' *ℚ nat m ÷ℚ nat b -ℚ x *ℚ nat m ÷ℚ nat b ≤ℚ nat t *ℚ (x' -ℚ x)
  scaled_gains =
      linear (x *ℚ nat m ÷ℚ nat b ∷ x' *ℚ nat m ÷ℚ nat b ∷ nat t *ℚ (x' -ℚ x) ∷ []) (at 1 ≼ at 0 ⊕ at 2 ∷ []) (at 1 ⊖ at 0 ≼ at 2) (λ d u w p h. omega arith)
      (÷-≤ {x = x' *ℚ nat m} {y = nat b} (nat-< p) steeper, tt)

-- the least of a number and c
pub least_gains : (c : ℚ) {x x' : ℚ} → x ≤ℚ x' → minℚ x' c -ℚ minℚ x c ≤ℚ x' -ℚ x
least_gains c {x} {x'} h =
    ⊎_elim
    (λ e. linear (x ∷ x' ∷ minℚ x c ∷ minℚ x' c ∷ []) (at 2 ≋ at 0 ∷ at 3 ≼ at 1 ∷ []) (at 3 ⊖ at 2 ≼ at 1 ⊖ at 0) (λ d u w p h. omega arith) (e, (min_left x' c, tt)))
    (λ e. linear (x ∷ x' ∷ minℚ x c ∷ minℚ x' c ∷ c ∷ []) (at 2 ≋ at 4 ∷ at 3 ≼ at 4 ∷ at 0 ≼ at 1 ∷ []) (at 3 ⊖ at 2 ≼ at 1 ⊖ at 0) (λ d u w p h. omega arith) (e, (min_right x' c, (h, tt))))
    (min_either x c)

pub exact_weight_is : (x : ℚ) → nat (10 ^ 9) *ℚ exact_weight x ≈ nat 980665 *ℚ x
unfolding exact_weight
exact_weight_is x = omega arith

pub exact_weight_low : (x : ℚ) → nat 0 ≤ℚ x → nat 0 ≤ℚ exact_weight x
unfolding exact_weight
exact_weight_low x h = omega arith

pub exact_weight_rises : (x x' : ℚ) → x ≤ℚ x' → exact_weight x ≤ℚ exact_weight x'
unfolding exact_weight
exact_weight_rises x x' h = omega arith

-- at most 10 mN a gram
pub exact_weight_gains : (x x' : ℚ) → x ≤ℚ x' → nat 1000 *ℚ (exact_weight x' -ℚ exact_weight x) ≤ℚ x' -ℚ x
exact_weight_gains x x' h =
    linear (x ∷ x' ∷ exact_weight x ∷ exact_weight x' ∷ []) (at 0 ≼ at 1 ∷ (10 ^ 9) ⊛ at 2 ≋ 980665 ⊛ at 0 ∷ (10 ^ 9) ⊛ at 3 ≋ 980665 ⊛ at 1 ∷ []) (1000 ⊛ (at 3 ⊖ at 2) ≼ at 1 ⊖ at 0) (λ d u w p h. omega arith)
    (h, (exact_weight_is x, (exact_weight_is x', tt)))

sum_low : (x y : ℚ) → nat 0 ≤ℚ x → nat 0 ≤ℚ y → nat 0 ≤ℚ x +ℚ y
sum_low x y p q = grind arith

-- a share with its factor in front
share_low : (c b : ℕ) (z : ℚ) → 0 < b → nat 0 ≤ℚ z → nat 0 ≤ℚ nat c *ℚ z ÷ℚ nat b
share_low c b z p h = grind arith

share_is : (c b : ℕ) (z : ℚ) → nat c *ℚ z ÷ℚ nat b ≈ z *ℚ nat c ÷ℚ nat b
share_is c b z = grind arith

-- the drag at a weight w, and at a greater weight w', with a force that both together do not pass
module _ (y : ℚ) (force : nat 0 <ℚ y) where
  pub exact_drag_low : (pair : ℕ × ℕ) (w : ℚ) → nat 0 ≤ℚ w → nat 0 ≤ℚ exact_drag_of pair w y
  unfolding exact_drag_of exact_parasitic exact_induced
  exact_drag_low pair w low =
      sum_low _ _
      (share_low pair.0 (10 ^ 8) y (omega arith) (<→≤ force))
      (share_low pair.1 (10 ^ 7) (exact_loading w y) (omega arith) (÷-≥0 force (*-≥0 (nat-≥0 10) (*-≥0 low low))))

  module _ (w w' : ℚ) (low : nat 0 ≤ℚ w) (h : w ≤ℚ w') where
    loading_rises : exact_loading w y ≤ℚ exact_loading w' y
    loading_rises = search (arith, ÷_mono, *_mono_left, nat-≥0, *_mono₂, ≤_trans)

    loading_gains : w' +ℚ w ≤ℚ y → exact_loading w' y ≤ℚ exact_loading w y +ℚ nat 10 *ℚ (w' -ℚ w)
    loading_gains light =
        ÷-≤ force
        (≤_trans
        (linear (w' *ℚ w' ∷ w *ℚ w ∷ (w' -ℚ w) *ℚ (w' +ℚ w) ∷ (w' -ℚ w) *ℚ y ∷ nat 10 *ℚ (w' -ℚ w) *ℚ y ∷ exact_loading w y *ℚ y ∷ [])
        (at 2 ≋ at 0 ⊖ at 1 ∷ at 2 ≼ at 3 ∷ at 4 ≋ 10 ⊛ at 3 ∷ at 5 ≋ 10 ⊛ at 1 ∷ [])
        (10 ⊛ at 0 ≼ at 5 ⊕ at 4)
        (λ d u w p h. omega arith)
        (difference_of_squares w w', (*_mono_left (w' -ℚ w) (more h) light, (*_assoc (nat 10) (w' -ℚ w) y, (÷-* (nat 10 *ℚ (w *ℚ w)) force, tt)))))
        (≈→≥ (+-* (exact_loading w y) (nat 10 *ℚ (w' -ℚ w)) y)))

    module _ (pair : ℕ × ℕ) (bounds : DragBounds pair) where
      induced : ℚ → ℚ
      induced w = exact_loading w y *ℚ nat pair.1 ÷ℚ nat (10 ^ 7)

      induced_is : (w : ℚ) → exact_induced pair.1 w y ≈ induced w
      unfolding induced exact_induced
      induced_is w = share_is pair.1 (10 ^ 7) (exact_loading w y)

      induced_rises : induced w ≤ℚ induced w'
      unfolding induced
      induced_rises = scaled_rises pair.1 (10 ^ 7) 5 (omega arith) (omega (arith, bounds.induced)) (exact_loading w y) (exact_loading w' y) loading_rises

      induced_gains : induced w' -ℚ induced w ≤ℚ nat 5 *ℚ (exact_loading w' y -ℚ exact_loading w y)
      unfolding induced
      induced_gains = scaled_gains pair.1 (10 ^ 7) 5 (omega arith) (omega (arith, bounds.induced)) (exact_loading w y) (exact_loading w' y) loading_rises

      pub exact_drag_rises : exact_drag_of pair w y ≤ℚ exact_drag_of pair w' y
      unfolding exact_drag_of
      exact_drag_rises =
          linear (exact_parasitic pair.0 y ∷ exact_induced pair.1 w y ∷ exact_induced pair.1 w' y ∷ induced w ∷ induced w' ∷ [])
          (at 1 ≋ at 3 ∷ at 2 ≋ at 4 ∷ at 3 ≼ at 4 ∷ [])
          (at 0 ⊕ at 1 ≼ at 0 ⊕ at 2)
          (λ d u w p h. omega arith)
          (induced_is w, (induced_is w', (induced_rises, tt)))

      pub exact_drag_gains : w' +ℚ w ≤ℚ y → exact_drag_of pair w' y -ℚ exact_drag_of pair w y ≤ℚ nat 50 *ℚ (w' -ℚ w)
      unfolding exact_drag_of
      exact_drag_gains light =
          linear (exact_parasitic pair.0 y ∷ exact_induced pair.1 w y ∷ exact_induced pair.1 w' y ∷ induced w ∷ induced w' ∷ exact_loading w y ∷ exact_loading w' y ∷ w ∷ w' ∷ [])
          (at 1 ≋ at 3 ∷ at 2 ≋ at 4 ∷ at 4 ⊖ at 3 ≼ 5 ⊛ (at 6 ⊖ at 5) ∷ at 6 ≼ at 5 ⊕ 10 ⊛ (at 8 ⊖ at 7) ∷ [])
          ((at 0 ⊕ at 2) ⊖ (at 0 ⊕ at 1) ≼ 50 ⊛ (at 8 ⊖ at 7))
          (λ d u w p h. omega arith)
          (induced_is w, (induced_is w', (induced_gains, (loading_gains light, tt))))
