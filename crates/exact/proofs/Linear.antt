-- Linear arithmetic over the exact numbers: claims about numbers of a list are proved over one common denominator, by `omega`.
use Rattle.std.proofs.Common.{◌≡◌, ℕ, zero, suc, ◌+◌, ◌*◌, ◌<◌, ◌≤◌, List, [], ◌∷◌, ap, mul-le-mul_right, lt_of_mul-lt-mul_right, mul-lt-mul_of_pos_right, mul-pos, le_of_mul-le-mul_right, arith}
use Rattle.exact.specs.Rational.{ℚ, ◌≤ℚ◌, ◌<ℚ◌, ◌≈◌, nat, ◌+ℚ◌, ◌-ℚ◌, negℚ, ◌*ℚ◌, Near}
use Rattle.exact.proofs.Laws.Order.{≤_antisym, ≈→≤, ≈→≥, near_out, near_in}

infix 68 ◌≼◌ ◌≺◌ ◌≋◌
infixl 70 ◌⊕◌ ◌⊖◌
infixr 75 ◌⊛◌
-- a number of the list, a natural, a sum, a difference, a multiple, an opposite
pub data Term : Type 0 where
  at : ℕ → Term
  con : ℕ → Term
  ◌⊕◌ : Term → Term → Term
  ◌⊖◌ : Term → Term → Term
  ◌⊛◌ : ℕ → Term → Term
  neg : Term → Term

-- at most, less, equal, and within a distance
pub data Claim : Type 0 where
  ◌≼◌ : Term → Term → Claim
  ◌≺◌ : Term → Term → Claim
  ◌≋◌ : Term → Term → Claim
  near : Term → Term → Term → Claim

-- What terms and claims say of the numbers of a list.

abbrev pub entry : List ℚ → ℕ → ℚ
entry [] i = nat 0
entry (x ∷ e) zero = x
entry (x ∷ e) (suc i) = entry e i

abbrev pub value : List ℚ → Term → ℚ
value e (at i) = entry e i
value e (con k) = nat k
value e (a ⊕ b) = value e a +ℚ value e b
value e (a ⊖ b) = value e a -ℚ value e b
value e (k ⊛ a) = nat k *ℚ value e a
value e (neg a) = negℚ (value e a)

abbrev pub Holds : List ℚ → Claim → Type 0
Holds e (a ≼ b) = value e a ≤ℚ value e b
Holds e (a ≺ b) = value e a <ℚ value e b
Holds e (a ≋ b) = value e a ≈ value e b
Holds e (near a b c) = Near (value e a) (value e b) (value e c)

abbrev pub All : List ℚ → List Claim → Type 0
All e [] = Unit {0}
All e (c ∷ cs) = Holds e c × All e cs

-- What they say of numerators over a common denominator d: number i is (u i − w i) / d.

abbrev mutual
  pub up : ℕ → (ℕ → ℕ) → (ℕ → ℕ) → Term → ℕ
  up d u w (at i) = u i
  up d u w (con k) = k * d
  up d u w (a ⊕ b) = up d u w a + up d u w b
  up d u w (a ⊖ b) = up d u w a + down d u w b
  up d u w (k ⊛ a) = k * up d u w a
  up d u w (neg a) = down d u w a

  pub down : ℕ → (ℕ → ℕ) → (ℕ → ℕ) → Term → ℕ
  down d u w (at i) = w i
  down d u w (con k) = 0
  down d u w (a ⊕ b) = down d u w a + down d u w b
  down d u w (a ⊖ b) = down d u w a + up d u w b
  down d u w (k ⊛ a) = k * down d u w a
  down d u w (neg a) = up d u w a

abbrev pub Holdsℕ : ℕ → (ℕ → ℕ) → (ℕ → ℕ) → Claim → Type 0
Holdsℕ d u w (a ≼ b) = up d u w a + down d u w b ≤ up d u w b + down d u w a
Holdsℕ d u w (a ≺ b) = up d u w a + down d u w b < up d u w b + down d u w a
Holdsℕ d u w (a ≋ b) = up d u w a + down d u w b ≡ up d u w b + down d u w a
Holdsℕ d u w (near a b c) = (up d u w a + down d u w b + down d u w c ≤ up d u w b + up d u w c + down d u w a) × (up d u w b + down d u w a + down d u w c ≤ up d u w a + up d u w c + down d u w b)

abbrev pub Allℕ : ℕ → (ℕ → ℕ) → (ℕ → ℕ) → List Claim → Type 0
Allℕ d u w [] = Unit {0}
Allℕ d u w (c ∷ cs) = Holdsℕ d u w c × Allℕ d u w cs

-- x is (p − m) / d
record Over (d p m : ℕ) (x : ℚ) : Type 0 where
  same : x.plus * d + m * x.den ≡ p * x.den + x.minus * d

over_sum : {d p m p' m' : ℕ} {x y : ℚ} → Over d p m x → Over d p' m' y → Over d (p + p') (m + m') (x +ℚ y)
over_sum {x = x} {y = y} h k = record { same = omega (arith, ap (λ (n : ℕ). n * y.den) h.same, ap (λ (n : ℕ). n * x.den) k.same) }

over_neg : {d p m : ℕ} {x : ℚ} → Over d p m x → Over d m p (negℚ x)
over_neg h = record { same = omega (arith, h.same) }

over_multiple : {d p m : ℕ} {x : ℚ} (k : ℕ) → Over d p m x → Over d (k * p) (k * m) (nat k *ℚ x)
over_multiple k h = record { same = omega (arith, ap (λ (n : ℕ). k * n) h.same) }

-- twice the same inequality, times d and times both denominators
over-≤ : {d p m p' m' : ℕ} {x y : ℚ} → 0 < d → Over d p m x → Over d p' m' y → p + m' ≤ p' + m → x ≤ℚ y
over-≤ {d} {x = x} {y = y} z h k s = record { le = le_of_mul-le-mul_right {k = d} (omega (arith, ap (λ (n : ℕ). n * y.den) h.same, ap (λ (n : ℕ). n * x.den) k.same, mul-le-mul_right (x.den * y.den) s)) z }

over-< : {d p m p' m' : ℕ} {x y : ℚ} → Over d p m x → Over d p' m' y → p + m' < p' + m → x <ℚ y
over-< {d} {x = x} {y = y} h k s = record { lt = lt_of_mul-lt-mul_right d (omega (arith, ap (λ (n : ℕ). n * y.den) h.same, ap (λ (n : ℕ). n * x.den) k.same, mul-lt-mul_of_pos_right s (mul-pos x.positive y.positive))) }

≤_over : {d p m p' m' : ℕ} {x y : ℚ} → Over d p m x → Over d p' m' y → x ≤ℚ y → p + m' ≤ p' + m
≤_over {d} {x = x} {y = y} h k s = le_of_mul-le-mul_right {k = x.den * y.den} (omega (arith, ap (λ (n : ℕ). n * y.den) h.same, ap (λ (n : ℕ). n * x.den) k.same, mul-le-mul_right d s.le)) (mul-pos x.positive y.positive)

<_over : {d p m p' m' : ℕ} {x y : ℚ} → 0 < d → Over d p m x → Over d p' m' y → x <ℚ y → p + m' < p' + m
<_over {d} {x = x} {y = y} z h k s = lt_of_mul-lt-mul_right (x.den * y.den) (omega (arith, ap (λ (n : ℕ). n * y.den) h.same, ap (λ (n : ℕ). n * x.den) k.same, mul-lt-mul_of_pos_right s.lt z))

-- the common denominator of a list, and each number's two numerators over it

common : List ℚ → ℕ
common [] = 1
common (x ∷ e) = x.den * common e

ups : List ℚ → ℕ → ℕ
ups [] i = 0
ups (x ∷ e) zero = x.plus * common e
ups (x ∷ e) (suc i) = x.den * ups e i

downs : List ℚ → ℕ → ℕ
downs [] i = 0
downs (x ∷ e) zero = x.minus * common e
downs (x ∷ e) (suc i) = x.den * downs e i

common_pos : (e : List ℚ) → 0 < common e
unfolding common
common_pos [] = omega arith
common_pos (x ∷ e) = mul-pos x.positive (common_pos e)

over_entry : (e : List ℚ) (i : ℕ) → Over (common e) (ups e i) (downs e i) (entry e i)
unfolding common ups downs
over_entry [] i = record { same = omega arith }
over_entry (x ∷ e) zero = record { same = omega arith }
over_entry (x ∷ e) (suc i) = record { same = omega (arith, ap (λ (n : ℕ). x.den * n) (over_entry e i).same) }

over : (e : List ℚ) (t : Term) → Over (common e) (up (common e) (ups e) (downs e) t) (down (common e) (ups e) (downs e) t) (value e t)
over e (at i) = over_entry e i
over e (con k) = record { same = omega arith }
over e (a ⊕ b) = over_sum (over e a) (over e b)
over e (a ⊖ b) = over_sum (over e a) (over_neg (over e b))
over e (k ⊛ a) = over_multiple k (over e a)
over e (neg a) = over_neg (over e a)

enter : (e : List ℚ) (c : Claim) → Holds e c → Holdsℕ (common e) (ups e) (downs e) c
enter e (a ≼ b) h = ≤_over (over e a) (over e b) h
enter e (a ≺ b) h = <_over (common_pos e) (over e a) (over e b) h
enter e (a ≋ b) h = omega (arith, ≤_over (over e a) (over e b) (≈→≤ h), ≤_over (over e b) (over e a) (≈→≥ h))
enter e (near a b c) h = (omega (arith, ≤_over (over e a) (over e (b ⊕ c)) (near_out h).0), omega (arith, ≤_over (over e b) (over e (a ⊕ c)) (near_out h).1))

leave : (e : List ℚ) (c : Claim) → Holdsℕ (common e) (ups e) (downs e) c → Holds e c
leave e (a ≼ b) h = over-≤ (common_pos e) (over e a) (over e b) h
leave e (a ≺ b) h = over-< (over e a) (over e b) h
leave e (a ≋ b) h = ≤_antisym (over-≤ (common_pos e) (over e a) (over e b) (omega arith)) (over-≤ (common_pos e) (over e b) (over e a) (omega arith))
leave e (near a b c) h = near_in (over-≤ (common_pos e) (over e a) (over e (b ⊕ c)) (omega arith)) (over-≤ (common_pos e) (over e b) (over e (a ⊕ c)) (omega arith))

enter_all : (e : List ℚ) (cs : List Claim) → All e cs → Allℕ (common e) (ups e) (downs e) cs
enter_all e [] h = tt
enter_all e (c ∷ cs) h = (enter e c h.0, enter_all e cs h.1)

leave_all : (e : List ℚ) (cs : List Claim) → Allℕ (common e) (ups e) (downs e) cs → All e cs
leave_all e [] h = tt
leave_all e (c ∷ cs) h = (leave e c h.0, leave_all e cs h.1)

pub linear : (e : List ℚ) (cs : List Claim) (g : Claim) → ((d : ℕ) (u w : ℕ → ℕ) → 0 < d → Allℕ d u w cs → Holdsℕ d u w g) → All e cs → Holds e g
linear e cs g f h = leave e g (f (common e) (ups e) (downs e) (common_pos e) (enter_all e cs h))

pub linears : (e : List ℚ) (cs gs : List Claim) → ((d : ℕ) (u w : ℕ → ℕ) → 0 < d → Allℕ d u w cs → Allℕ d u w gs) → All e cs → All e gs
linears e cs gs f h = leave_all e gs (f (common e) (ups e) (downs e) (common_pos e) (enter_all e cs h))
