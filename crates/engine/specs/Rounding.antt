-- How a rounding error passes through a quotient and a multiple, and bounds of an exact value by the rounded one.
use Rattle.std.specs.Prelude.{ℕ, ◌+◌, ◌*◌, ◌/◌, ◌<◌, ◌≤◌, [], ◌∷◌}
use Rattle.std.proofs.Common.{subst, mul_comm, arith}
use Rattle.exact.specs.Rational.{ℚ, nat, ◌+ℚ◌, ◌-ℚ◌, ◌*ℚ◌, ◌÷ℚ◌, ◌≤ℚ◌, Near}
use Rattle.exact.proofs.Laws.{≤_trans, ≈_refl, ≈→≥, nat-<, nat-≥0, nat-*, *_comm, ÷-≤, ÷-≈, near_out, near-≈, near_weaken, near-*, near_floor_of}
use Rattle.exact.proofs.Linear.{linear, at, con, ◌⊕◌, ◌⊖◌, ◌≼◌}

-- the error of what is divided, and one unit for the floor
pub near_over : {a e : ℕ} {x : ℚ} (b t : ℕ) → 0 < b → e + b ≤ t * b → Near (nat a) x (nat e) → Near (nat (a / b)) (x ÷ℚ nat b) (nat t)
near_over {a} {e} {x} b t p q n = near_weaken (near_floor_of a b p n) room
  where
    share : nat e ÷ℚ nat b ≤ℚ nat t -ℚ nat 1
    share = ÷-≤ {x = nat e} {y = nat b} (nat-< p) (omega arith)

    room : nat 1 +ℚ nat e ÷ℚ nat b ≤ℚ nat t
    room = linear (nat e ÷ℚ nat b ∷ nat t ∷ []) (at 0 ≼ at 1 ⊖ con 1 ∷ []) (con 1 ⊕ at 0 ≼ at 1) (λ d u w p h. omega arith) (share, tt)

-- of a multiple
pub near_times : {a e : ℕ} {x : ℚ} (m b t : ℕ) → 0 < b → e * m + b ≤ t * b → Near (nat a) x (nat e) → Near (nat (a * m / b)) (x *ℚ nat m ÷ℚ nat b) (nat t)
near_times {a} {e} {x} m b t p q n =
    near_over b t p q (near_weaken (near-≈ (nat-* a m) (≈_refl (x *ℚ nat m)) (near-* (nat m) (nat-≥0 m) n)) (≈→≥ (nat-* e m)))

-- the same with the factor in front
pub times_near : {a e : ℕ} {x : ℚ} (m b t : ℕ) → 0 < b → e * m + b ≤ t * b → Near (nat a) x (nat e) → Near (nat (m * a / b)) (nat m *ℚ x ÷ℚ nat b) (nat t)
times_near {a} {e} {x} m b t p q n =
    subst (λ (c : ℕ). Near (nat (c / b)) (nat m *ℚ x ÷ℚ nat b) (nat t)) (mul_comm a m)
    (near-≈ (≈_refl (nat (a * m / b))) (÷-≈ (*_comm (nat m) x) (≈_refl (nat b))) (near_times m b t p q n))

pub near_high : {n e : ℕ} {x : ℚ} (m : ℕ) → n + e ≤ m → Near (nat n) x (nat e) → x ≤ℚ nat m
near_high m p n = ≤_trans (near_out n).1 (omega arith)
