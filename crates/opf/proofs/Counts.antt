-- Powers of ten in a number's value.
use Rattle.std.proofs.Common.{◌≡◌, ℕ, zero, suc, ◌+◌, ◌*◌, ◌/◌, ◌%◌, ◌^◌, ◌<◌, ◌≤◌, Bool, true, false, cond, not, ◌&&◌, ◌||◌, eqb, leb, ◌⊎◌, inl, inr, ℤ, pos, negsuc, unsigned_abs, neg_ℤ, ◌+ℤ◌, ◌-ℤ◌, ◌<ℤ◌, ◌≤ℤ◌, Some, None, Option, SomeIff, sym, refl, ap, ◌∙◌, ⊎_elim, add-zero, mod-eq_of_lt, zero-lt-suc, mul_assoc, mul_comm, mul-le-mul, mul-pos, zero-mul, mul-div_cancel, arith, pow-add}
use native.Mathlib.Nat.{mul-mod_left, mul-div-mul_right, zero-mod, zero-div, pow-le-pow_right}
use Rattle.std.proofs.Math.Nat.{div-le_self}
use lib.Signed.{le_z}
use Rattle.std.proofs.lemmas.Int.{ints}
use lib.Arith.{mod-mul}
use Rattle.std.proofs.lemmas.Bool.{eq-eqb, ne_eqb, le-leb, lt-leb, leb-true, leb-false, and_left, and_right, or_right, cases_Bool}
use Rattle.opf.specs.declared.number.Quantity.{Quantity}
use Rattle.opf.specs.Numbers.{fixed_point, raised, lowered, within, between, natural_from, signed_value, signed_from}
use Rattle.opf.specs.Counts.{at_most}

pub ten_pos : (n : ℕ) → 0 < 10 ^ n
ten_pos n = pow-le-pow_right {n = 10} (omega arith) {i = 0} {j = n} (omega arith)

-- The value where the exponent raises, where it lowers, and of zero.

pub fixed_up : (d a b n : ℕ) → a ≡ b + n → fixed_point d a b ≡ Some (d * 10 ^ n)
unfolding fixed_point
fixed_up d a b n up =
    let e : d * 10 ^ a ≡ (d * 10 ^ n) * 10 ^ b =
    ap (λ (k : ℕ). d * 10 ^ k) up
    ∙ ap (λ (p : ℕ). d * p) (pow-add 10 b n ∙ mul_comm (10 ^ b) (10 ^ n))
    ∙ sym (mul_assoc d (10 ^ n) (10 ^ b)) in
    rw (e, mul-mod_left (d * 10 ^ n) (10 ^ b), mul-div_cancel (d * 10 ^ n) (ten_pos b))

zero_times : (x p : ℕ) → 0 < p → eqb (x * p) 0 ≡ eqb x 0
zero_times zero p h = ap (λ (m : ℕ). eqb m 0) (zero-mul p)
zero_times (suc x) p h =
    let more : 0 < suc x * p = mul-pos (zero-lt-suc x) h in
    ne_eqb (suc x * p) 0 (λ e. omega arith) ∙ sym (ne_eqb (suc x) 0 (λ e. omega arith))

pub fixed_down : (d a b n : ℕ) → b ≡ n + a → fixed_point d a b ≡ cond (eqb (d % 10 ^ n) 0) (Some (d / 10 ^ n)) None
unfolding fixed_point
fixed_down d a b n down =
    let e : 10 ^ b ≡ 10 ^ n * 10 ^ a = ap (λ (k : ℕ). 10 ^ k) down ∙ pow-add 10 n a in
    let q : d * 10 ^ a / (10 ^ n * 10 ^ a) ≡ d / 10 ^ n = mul-div-mul_right d (10 ^ n) (ten_pos a) in
    let r : (d * 10 ^ a) % (10 ^ n * 10 ^ a) ≡ (d % 10 ^ n) * 10 ^ a =
    mod-mul (d * 10 ^ a) (ten_pos n) (ten_pos a)
    ∙ ap (λ (m : ℕ). (m % 10 ^ n) * 10 ^ a + (d * 10 ^ a) % 10 ^ a) (mul-div_cancel d (ten_pos a))
    ∙ ap (λ (m : ℕ). (d % 10 ^ n) * 10 ^ a + m) (mul-mod_left d (10 ^ a))
    ∙ add-zero ((d % 10 ^ n) * 10 ^ a) in
    rw (e, q, r) (ap (λ (t : Bool). cond t (Some (d / 10 ^ n)) None) (zero_times (d % 10 ^ n) (10 ^ a) (ten_pos a)))

pub fixed_zero : (a b : ℕ) → fixed_point (0) a b ≡ Some 0
unfolding fixed_point
fixed_zero a b = rw (zero-mul (10 ^ a), zero-mod (10 ^ b), zero-div (10 ^ b))

-- What the limit keeps.

pub kept_some : (high v : ℕ) → v ≤ high → Some v ≡ at_most high (Some v)
kept_some high v h = rw (le-leb v high h)

pub kept_none : (high v : ℕ) → high < v → None ≡ at_most high (Some v)
kept_none high v h = rw (lt-leb v high h)

product : (a m b n : ℕ) → a ≤ m → b ≤ n → a * b ≤ m * n
product a m b n p q = mul-le-mul p q

-- A number whose digits are raised, or lowered, by n places.

-- by how much the unit and the exponent raise, or lower, the digits
module _ (u n : ℕ) (e z : ℤ) (size : n ≡ unsigned_abs z) (shift : z ≡ pos u +ℤ e -ℤ pos 5) where
  pub shifted_up : le_z (pos 0) z ≡ true → u + raised e ≡ 5 + lowered e + n
  shifted_up p = up e z size shift p
    where
      up : (e z : ℤ) → n ≡ unsigned_abs z → z ≡ pos u +ℤ e -ℤ pos 5 → le_z (pos 0) z ≡ true → u + raised e ≡ 5 + lowered e + n
      up (pos e) (pos k) s h p = omega (arith, ints)
      up (negsuc e) (pos k) s h p = omega (arith, ints)
      up e (negsuc k) s h p = absurd (let t : ◌≡◌ {A = ℕ} 0 1 = cc in omega arith)

  pub shifted_down : le_z (pos 0) z ≡ false → 5 + lowered e ≡ n + (u + raised e)
  shifted_down p = down e z size shift p
    where
      down : (e z : ℤ) → n ≡ unsigned_abs z → z ≡ pos u +ℤ e -ℤ pos 5 → le_z (pos 0) z ≡ false → 5 + lowered e ≡ n + (u + raised e)
      down (pos e) (negsuc k) s h p = omega (arith, ints)
      down (negsuc e) (negsuc k) s h p = omega (arith, ints)
      down e (pos k) s h p = absurd (let t : le_z (pos 0) (pos k) ≡ true = le-leb 0 k (omega arith) in let y : ◌≡◌ {A = ℕ} 0 1 = cc in omega arith)

  pub shifted : (u + raised e ≡ 5 + lowered e + n) ⊎ (5 + lowered e ≡ n + (u + raised e))
  shifted = ⊎_elim (λ t. inl (shifted_up t)) (λ f. inr (shifted_down f)) (cases_Bool (le_z (pos 0) z))

module _ (d a b n high : ℕ) where
  -- the power alone passes the limit
  pub past_limit : 0 < d → d ≤ high → high < 10 ^ n → (a ≡ b + n) ⊎ (b ≡ n + a) → None ≡ at_most high (fixed_point d a b)
  past_limit some fits far (inl up) =
      let more : 1 * 10 ^ n ≤ d * 10 ^ n = product 1 d (10 ^ n) (10 ^ n) some (omega arith) in
      rw (fixed_up d a b n up) (kept_none high (d * 10 ^ n) (omega arith))
  past_limit some fits far (inr down) =
      let less : d < 10 ^ n = omega arith in
      let same : d % 10 ^ n ≡ d = mod-eq_of_lt less in
      let no_zero : eqb d 0 ≡ false = ne_eqb d 0 (λ e. omega arith) in
      rw (fixed_down d a b n down, same, no_zero)

  pub raised_units : (p : ℕ) (r : Option ℕ) → a ≡ b + n → p ≡ 10 ^ n → SomeIff r (d * p < high + 1) (d * p) → r ≡ at_most high (fixed_point d a b)
  raised_units p None up e h = rw (fixed_up d a b n up, ← e) (kept_none high (d * p) (omega arith))
  raised_units p (Some v) up e h = ap Some h.1 ∙ rw (fixed_up d a b n up, ← e) (kept_some high (d * p) (omega arith))

  pub lowered_broken : (p : ℕ) → b ≡ n + a → p ≡ 10 ^ n → (d % p ≡ 0 → ⊥) → None ≡ at_most high (fixed_point d a b)
  lowered_broken p down e h =
      let broken : eqb (d % p) 0 ≡ false = ne_eqb (d % p) 0 h in
      rw (fixed_down d a b n down, ← e, broken)

  pub lowered_units : (p : ℕ) → b ≡ n + a → p ≡ 10 ^ n → d ≤ high → d % p ≡ 0 → Some (d / p) ≡ at_most high (fixed_point d a b)
  lowered_units p down e fits h =
      let whole : eqb (d % p) 0 ≡ true = eq-eqb (d % p) 0 h in
      rw (fixed_down d a b n down, ← e, whole) (kept_some high (d / p) (omega (arith, div-le_self d p)))

-- A count within the limit is judged by its range and sign.

pub at_most_some : (high v : ℕ) (o : Option ℕ) → Some v ≡ at_most high o → (o ≡ Some v) × (v ≤ high)
at_most_some high v None e = absurd (let z : ◌≡◌ {A = ℕ} 0 1 = cc in omega arith)
at_most_some high v (Some w) e =
    ⊎_elim
    (λ t. let same : Some v ≡ Some w = rw t at e in let w_is : w ≡ v = cc in (ap Some w_is, omega (arith, leb-true w high t)))
    (λ f. let none : Some v ≡ None = rw f at e in absurd (let z : ◌≡◌ {A = ℕ} 0 1 = cc in omega arith))
    (cases_Bool (leb w high))

pub natural_none : (q : Quantity ℕ) (m : Bool) (high : ℕ) (o : Option ℕ) → q.high ≤ high → None ≡ at_most high o → None ≡ natural_from q m o
natural_none q m high None h e = refl
natural_none q m high (Some w) h e =
    ⊎_elim
    (λ t. let some : None ≡ Some w = rw t at e in absurd (let z : ◌≡◌ {A = ℕ} 0 1 = cc in omega arith))
    (λ f.
    let past : leb w q.high ≡ false = lt-leb w q.high (omega (arith, leb-false w high f)) in
    let out : within q m w ≡ false =
    and_left (leb q.low w && leb w q.high) (eqb w 0 || not m) (and_right (leb q.low w) (leb w q.high) past) in
    rw out)
    (cases_Bool (leb w high))

-- A count within the limit, by its range and sign.

module _ (m : Bool) (v high : ℕ) (o : Option ℕ) (e : Some v ≡ at_most high o) where
  pub natural_out : (q : Quantity ℕ) → (v < q.low) ⊎ (q.high < v) → None ≡ natural_from q m o
  natural_out q (inl l) = rw ((at_most_some high v o e).0, lt-leb q.low v l)
  natural_out q (inr l) =
      let out : within q m v ≡ false = and_left (leb q.low v && leb v q.high) (eqb v 0 || not m) (and_right (leb q.low v) (leb v q.high) (lt-leb v q.high l)) in
      rw ((at_most_some high v o e).0, out)

  pub natural_minus : (q : Quantity ℕ) → (v ≡ 0 → ⊥) → m ≡ true → None ≡ natural_from q m o
  natural_minus q n t = rw ((at_most_some high v o e).0, t, ne_eqb v 0 n, and_right (leb q.low v && leb v q.high) false refl)

  pub natural_kept : (q : Quantity ℕ) → q.low ≤ v → v ≤ q.high → (v ≡ 0) ⊎ (m ≡ false) → Some v ≡ natural_from q m o
  natural_kept q l h (inl z) = rw ((at_most_some high v o e).0, le-leb q.low v l, le-leb v q.high h, eq-eqb v 0 z)
  natural_kept q l h (inr f) = rw ((at_most_some high v o e).0, le-leb q.low v l, le-leb v q.high h, f, or_right (eqb v 0) true refl)

  pub signed_out : (q : Quantity ℤ) (z : ℤ) → z ≡ signed_value m v → (z <ℤ q.low) ⊎ (q.high <ℤ z) → None ≡ signed_from q m o
  signed_out q z s (inl l) =
      let out : le_z q.low z ≡ false = grind (arith, ints) in
      rw ((at_most_some high v o e).0, ← s, out)
  signed_out q z s (inr l) =
      let past : le_z z q.high ≡ false = grind (arith, ints) in
      let out : between q z ≡ false = and_right (le_z q.low z) (le_z z q.high) past in
      rw ((at_most_some high v o e).0, ← s, out)

  pub signed_kept : (q : Quantity ℤ) (z : ℤ) → z ≡ signed_value m v → q.low ≤ℤ z → z ≤ℤ q.high → Some z ≡ signed_from q m o
  signed_kept q z s l h =
      let low : le_z q.low z ≡ true = grind (arith, ints) in
      let most : le_z z q.high ≡ true = grind (arith, ints) in
      rw ((at_most_some high v o e).0, ← s, low, most)

-- a count past the limit is in no range below it
pub signed_none : (q : Quantity ℤ) (m : Bool) (high : ℕ) (o : Option ℕ) → neg_ℤ (pos high) ≤ℤ q.low → q.high ≤ℤ pos high → None ≡ at_most high o → None ≡ signed_from q m o
signed_none q m high None l h e = refl
signed_none q m high (Some w) l h e =
    ⊎_elim
    (λ t. let some : None ≡ Some w = rw t at e in absurd (let z : ◌≡◌ {A = ℕ} 0 1 = cc in omega arith))
    (λ f. past m w (leb-false w high f))
    (cases_Bool (leb w high))
  where
    past : (m : Bool) (w : ℕ) → high < w → None ≡ signed_from q m (Some w)
    past true w p =
        let out : le_z q.low (pos 0 -ℤ pos w) ≡ false = grind (arith, ints) in
        rw out
    past false w p =
        let far : le_z (pos w) q.high ≡ false = grind (arith, ints) in
        let out : between q (pos w) ≡ false = and_right (le_z q.low (pos w)) (le_z (pos w) q.high) far in
        rw out
