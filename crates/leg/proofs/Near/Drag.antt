-- Force, weight and drag are near their exact values.
use Rattle.std.proofs.Common.{◌≡◌, ℕ, ◌+◌, ◌-◌, ◌*◌, ◌/◌, ◌^◌, ◌≤◌, [], ◌∷◌, ap, ⊎_elim, mul-le-mul_left, div-mul-le_self, arith}
use native.Mathlib.Nat.{lt-div-mul-add}
use Rattle.exact.specs.Rational.{ℚ, nat, ◌+ℚ◌, ◌*ℚ◌, ◌÷ℚ◌, ◌≤ℚ◌, ◌<ℚ◌, Near}
use Rattle.exact.proofs.Laws.{≤_trans, nat-≥0, nat-≤, *_mono_left, *_mono₂, *-≥0, ÷-≤, ≤-÷, ÷-≥0, near_in, near_weaken, near-+, near-≈, near_floor, either-≤, nat-+, ≈_refl}
use Rattle.exact.proofs.Linear.{linear, at, con, ◌⊕◌, ◌≼◌, near}
use Rattle.engine.specs.Bounds.{quotient}
use Rattle.engine.specs.Rounding.{near_times, times_near, near_high}
use Rattle.leg.specs.Rules.{dynamic_pressure, wing_force, weight, parasitic_drag, induced_drag, drag_of}
use Rattle.leg.specs.Nearness.{DragBounds}
use Rattle.leg.specs.Exact.{exact_pressure, exact_force, exact_weight, exact_parasitic, exact_induced, exact_drag_of}

-- a lower bound of an exact value by the rounded one
pub near_low : {n e : ℕ} {x : ℚ} (m : ℕ) → m + e ≤ n → Near (nat n) x (nat e) → nat m ≤ℚ x
near_low {n} {e} {x} m p h = linear (nat m ∷ nat n ∷ x ∷ nat e ∷ []) (near (at 1) (at 2) (at 3) ∷ at 0 ⊕ at 3 ≼ at 1 ∷ []) (at 0 ≼ at 2) (λ d u w p h. omega arith) (h, (omega arith, tt))

pub force_near : (density v s : ℕ) → s ≤ 10 ^ 6 → Near (nat (wing_force (dynamic_pressure density v) s)) (exact_force (exact_pressure density v) s) (nat 2)
unfolding exact_force exact_pressure
force_near density v s p =
    near_times s (10 ^ 6) 2 (omega arith) (omega arith) (near_floor (density * (v * v) * 214369) 16200000 (omega arith))

pub weight_near : (mass : ℕ) → Near (nat (weight mass)) (exact_weight (nat mass)) (nat 2)
unfolding exact_weight
weight_near mass = near_times 980665 (10 ^ 6) 2 (omega arith) (omega arith) (near_floor mass 1000 (omega arith))

-- the weight's square over the force, where the wing lifts the weight

abbrev pub loading : ℕ → ℕ → ℕ
loading w q = 10 * (w * w) / q

abbrev pub exact_loading : ℚ → ℚ → ℚ
exact_loading x y = nat 10 *ℚ (x *ℚ x) ÷ℚ y

-- 2 more of the weight and 2 less of the force bring at most 15 more
loading_above : (w q p : ℕ) → q ≡ p + 2 → 1000 ≤ w → 10 * w ≤ 3 * q → loading w q ≤ 3 * w → 10 * ((w + 2) * (w + 2)) ≤ (loading w q + 15) * p
loading_above w q p h heavy lift most =
    omega (arith, lt-div-mul-add {a = 10 * (w * w)} {b = q} (omega arith), ap (λ (n : ℕ). loading w q * n) h)

-- and the other way round at most 15 less
loading_below : (w q v b : ℕ) → w ≡ v + 2 → loading w q ≡ b + 15 → 10 * w ≤ 3 * q → loading w q ≤ 3 * w → b * (q + 2) ≤ 10 * (v * v)
loading_below w q v b e h lift most =
    omega (arith, div-mul-le_self (10 * (w * w)) q, ap (λ (n : ℕ). n * n) e, ap (λ (n : ℕ). n * q) h)

module _ (w q : ℕ) (x y : ℚ) (heavy : 1000 ≤ w) (lift : 10 * w ≤ 3 * q) (weighs : Near (nat w) x (nat 2)) (presses : Near (nat q) y (nat 2)) where
  most : loading w q ≤ 3 * w
  most = quotient (10 * (w * w)) q (3 * w) (omega (arith, mul-le-mul_left w lift))

  weight_low : nat (w - 2) ≤ℚ x
  weight_low = near_low (w - 2) (omega arith) weighs

  weight_high : x ≤ℚ nat (w + 2)
  weight_high = near_high (w + 2) (omega arith) weighs

  force_low : nat (q - 2) ≤ℚ y
  force_low = near_low (q - 2) (omega arith) presses

  force_high : y ≤ℚ nat (q + 2)
  force_high = near_high (q + 2) (omega arith) presses

  pub force_positive : nat 0 <ℚ y
  force_positive = grind arith

  weight-≥0 : nat 0 ≤ℚ x
  weight-≥0 = grind arith

  above : exact_loading x y ≤ℚ nat (loading w q + 15)
  above =
      ÷-≤ force_positive
      (≤_trans (*_mono_left (nat 10) (nat-≥0 10) (*_mono₂ weight-≥0 (nat-≥0 (w + 2)) weight_high weight_high))
      (≤_trans naturals (*_mono_left (nat (loading w q + 15)) (nat-≥0 (loading w q + 15)) force_low)))
    where
      naturals : nat 10 *ℚ (nat (w + 2) *ℚ nat (w + 2)) ≤ℚ nat (loading w q + 15) *ℚ nat (q - 2)
      naturals = omega (arith, loading_above w q (q - 2) (omega arith) heavy lift most)

  below : (b : ℕ) → loading w q ≡ b + 15 → nat b ≤ℚ exact_loading x y
  below b e =
      ≤-÷ force_positive
      (≤_trans (*_mono_left (nat b) (nat-≥0 b) force_high)
      (≤_trans naturals (*_mono_left (nat 10) (nat-≥0 10) (*_mono₂ (nat-≥0 (w - 2)) weight-≥0 weight_low weight_low))))
    where
      naturals : nat b *ℚ nat (q + 2) ≤ℚ nat 10 *ℚ (nat (w - 2) *ℚ nat (w - 2))
      naturals = omega (arith, loading_below w q (w - 2) b (omega arith) e lift most)

  pub loading_near : Near (nat (loading w q)) (exact_loading x y) (nat 15)
  loading_near = near_in (⊎_elim few many (either-≤ (loading w q) 15)) (≤_trans above (omega arith))
    where
      few : loading w q ≤ 15 → nat (loading w q) ≤ℚ exact_loading x y +ℚ nat 15
      few h =
          linear (nat (loading w q) ∷ exact_loading x y ∷ []) (at 0 ≼ con 15 ∷ con 0 ≼ at 1 ∷ []) (at 0 ≼ at 1 ⊕ con 15) (λ d u w p h. omega arith)
          (nat-≤ h, (÷-≥0 force_positive (*-≥0 (nat-≥0 10) (*-≥0 weight-≥0 weight-≥0)), tt))

      many : 15 ≤ loading w q → nat (loading w q) ≤ℚ exact_loading x y +ℚ nat 15
      many h =
          linear (nat (loading w q) ∷ exact_loading x y ∷ nat (loading w q - 15) ∷ []) (at 2 ≼ at 1 ∷ at 0 ≼ at 2 ⊕ con 15 ∷ []) (at 0 ≼ at 1 ⊕ con 15) (λ d u w p h. omega arith)
          (below (loading w q - 15) (omega arith), (omega arith, tt))

  -- with CD0 at most 0.94 and CD2 at most 0.47
  pub drag_near : (pair : ℕ × ℕ) → DragBounds pair → Near (nat (drag_of pair w q)) (exact_drag_of pair x y) (nat 75)
  unfolding exact_drag_of exact_parasitic exact_induced
  drag_near pair b =
      near_weaken
      (near-≈ (nat-+ (parasitic_drag pair.0 q) (induced_drag pair.1 w q)) (≈_refl _)
      (near-+
      (times_near pair.0 (10 ^ 8) 3 (omega arith) (omega (arith, b.parasitic)) presses)
      (times_near pair.1 (10 ^ 7) 72 (omega arith) (omega (arith, b.induced)) loading_near)))
      (omega arith)
