-- What a field without a fault gives: its range, and the number that it prints.
use Rattle.std.proofs.Common.{◌≡◌, ℕ, zero, suc, ◌*◌, ◌/◌, ◌%◌, ◌^◌, ◌≤◌, Bool, true, false, cond, not, ◌&&◌, ◌||◌, eqb, leb, ◌⊎◌, ℤ, pos, ◌*ℤ◌, neg_ℤ, ◌≤ℤ◌, is_some, Some, None, Option, unwrap_or, sym, refl, ap, ◌∙◌, subst, inl, inr, ⊎_elim, zero-mul, arith}
use native.Mathlib.Nat.{div-mul_cancel, dvd_of_mod-eq-zero}
use lib.IntN.{+ℤ_idl}
use lib.Signed.{le_z}
use Rattle.std.proofs.lemmas.Int.{ints}
use Rattle.std.proofs.lemmas.Bool.{eqb-true, leb-true, cases_Bool, and_parts, or_cases}
use Rattle.refusal.specs.declared.fault.Fault.TheVariants as fault
use Rattle.opf.specs.declared.number.Number.{Number}
use Rattle.opf.specs.declared.number.Quantity.{Quantity}
use Rattle.opf.specs.Fields.{field}
use Rattle.opf.specs.Numbers.{number_of, fixed_point, whole_count, raising, lowering, within, between, natural_from, natural_in, signed_value, signed_from, signed_in}
use Rattle.opf.specs.DataLines.{Fields, bound, number_fault, counted_fault, counted, natural_fault, natural, signed_fault, integer}
use Rattle.opf.specs.Printed.{IsNumber, Prints, PrintsCount}

pub some_is_not_none : {X : Type 0} (x : X) → Some x ≡ None → ⊥
some_is_not_none x e = let z : ◌≡◌ {A = ℕ} 0 1 = cc in omega arith

-- a whole count is exactly the quotient
fixed_exact : (d a b v : ℕ) → fixed_point d a b ≡ Some v → v * 10 ^ b ≡ d * 10 ^ a
unfolding fixed_point
fixed_exact d a b v e =
    ⊎_elim
    (λ t.
    let same : Some ((d * 10 ^ a) / (10 ^ b)) ≡ Some v = rw t at e in
    let v_is : (d * 10 ^ a) / (10 ^ b) ≡ v = cc in
    ap (λ (q : ℕ). q * 10 ^ b) (sym v_is) ∙ div-mul_cancel (10 ^ b) (dvd_of_mod-eq-zero (10 ^ b) (eqb-true ((d * 10 ^ a) % (10 ^ b)) 0 t)))
    (λ f. absurd (some_is_not_none v (sym (rw f at e))))
    (cases_Bool (eqb ((d * 10 ^ a) % (10 ^ b)) 0))

neg_times : (v p : ℕ) → neg_ℤ (pos v) *ℤ pos p ≡ neg_ℤ (pos (v * p))
neg_times zero p = ap pos (zero-mul p) ∙ sym (ap (λ (n : ℕ). neg_ℤ (pos n)) (zero-mul p))
neg_times (suc v) p = refl

signed_times : (m : Bool) (v p : ℕ) → signed_value m v *ℤ pos p ≡ signed_value m (v * p)
signed_times true v p = ap (λ (z : ℤ). z *ℤ pos p) (+ℤ_idl (neg_ℤ (pos v))) ∙ neg_times v p ∙ sym (+ℤ_idl (neg_ℤ (pos (v * p))))
signed_times false v p = refl

printed_count : (m : Bool) (d a b v : ℕ) → fixed_point d a b ≡ Some v → signed_value m v *ℤ pos (10 ^ b) ≡ signed_value m d *ℤ pos (10 ^ a)
printed_count m d a b v e = signed_times m v (10 ^ b) ∙ ap (signed_value m) (fixed_exact d a b v e) ∙ sym (signed_times m d (10 ^ a))

-- One number.

number_clear : {X : Type 0} (n k : ℕ) (o : Option Number) (value : Number → Option X) → number_fault n k o value ≡ None → (x : Number) × (y : X) × (o ≡ Some x) × (value x ≡ Some y)
number_clear n k None value e = absurd (some_is_not_none (fault.NumberForm n k) e)
number_clear n k (Some x) value e = held (value x) refl e
  where
    held : (o : Option _) → value x ≡ o → cond (is_some o) None (Some (fault.Value n k)) ≡ None → (y : Number) × (z : _) × (Some x ≡ Some y) × (value y ≡ Some z)
    held None f g = absurd (some_is_not_none (fault.Value n k) g)
    held (Some y) f g = (x, y, refl, f)

unsigned : (m : Bool) (v : ℕ) → (eqb v 0 ≡ true) ⊎ (not m ≡ true) → pos v ≡ signed_value m v
unsigned false v h = refl
unsigned true v (inl z) = let v_is = eqb-true v 0 z in ap pos v_is ∙ sym (ap (signed_value true) v_is)
unsigned true v (inr f) = absurd (let z : ◌≡◌ {A = ℕ} 0 1 = cc in omega arith)

natural_some : (q : Quantity ℕ) (m : Bool) (o : Option ℕ) (y : ℕ) → natural_from q m o ≡ Some y → (o ≡ Some y) × (q.low ≤ y) × (y ≤ q.high) × (pos y ≡ signed_value m y)
natural_some q m None y e = absurd (some_is_not_none y (sym e))
natural_some q m (Some v) y e =
    ⊎_elim
    (λ t.
    let same : Some v ≡ Some y = rw t at e in
    let v_is : v ≡ y = cc in
    let both = and_parts (leb q.low v && leb v q.high) (eqb v 0 || not m) t in
    let range = and_parts (leb q.low v) (leb v q.high) both.0 in
    let low : q.low ≤ v = leb-true q.low v range.0 in
    let high : v ≤ q.high = leb-true v q.high range.1 in
    (same, omega arith, omega arith, ap pos (sym v_is) ∙ unsigned m v (or_cases (eqb v 0) (not m) both.1) ∙ ap (signed_value m) v_is))
    (λ f. absurd (some_is_not_none y (sym (rw f at e))))
    (cases_Bool (within q m v))

pub record NaturalRead (fs : Fields) (k : ℕ) (q : Quantity ℕ) : Type 0 where
  pub least : q.low ≤ natural fs k q
  pub most : natural fs k q ≤ q.high
  pub prints : PrintsCount (field fs k) q (natural fs k q)

pub natural_clear : (n : ℕ) (fs : Fields) (k : ℕ) (q : Quantity ℕ) → natural_fault n fs k q ≡ None → NaturalRead fs k q
unfolding counted_fault counted natural_in
natural_clear n fs k q e =
    let r = number_clear n k (number_of (field fs k)) (natural_in q) e in
    let x = r.0 in
    let s = natural_some q x.negative (whole_count q.decimals x) r.1 r.3 in
    let value : natural fs k q ≡ r.1 = ap (λ (o : Option Number). unwrap_or (bound o (natural_in q)) 0) r.2 ∙ ap (λ (o : Option ℕ). unwrap_or o 0) r.3 in
    record {
      least = subst (λ (v : ℕ). q.low ≤ v) (sym value) s.1;
      most = subst (λ (v : ℕ). v ≤ q.high) (sym value) s.2;
      prints =
          subst (λ (v : ℕ). PrintsCount (field fs k) q v) (sym value)
          (subst (λ (o : Option Number). IsNumber o q.decimals (pos r.1)) (sym r.2)
          (ap (λ (z : ℤ). z *ℤ pos (10 ^ lowering x)) s.3 ∙ printed_count x.negative x.digits (raising q.decimals x) (lowering x) r.1 s.0));
    }

signed_some : (q : Quantity ℤ) (m : Bool) (o : Option ℕ) (z : ℤ) → signed_from q m o ≡ Some z → (v : ℕ) × (o ≡ Some v) × (z ≡ signed_value m v) × (q.low ≤ℤ z) × (z ≤ℤ q.high)
signed_some q m None z e = absurd (some_is_not_none z (sym e))
signed_some q m (Some v) z e =
    ⊎_elim
    (λ t.
    let same : Some (signed_value m v) ≡ Some z = rw t at e in
    let z_is : signed_value m v ≡ z = cc in
    let both = and_parts (le_z q.low (signed_value m v)) (le_z (signed_value m v) q.high) t in
    let low : q.low ≤ℤ signed_value m v = grind (arith, ints) in
    let high : signed_value m v ≤ℤ q.high = grind (arith, ints) in
    (v, refl, sym z_is, rw z_is at low, rw z_is at high))
    (λ f. absurd (some_is_not_none z (sym (rw f at e))))
    (cases_Bool (between q (signed_value m v)))

pub record IntegerRead (fs : Fields) (k : ℕ) (q : Quantity ℤ) : Type 0 where
  pub least : q.low ≤ℤ integer fs k q
  pub most : integer fs k q ≤ℤ q.high
  pub prints : Prints (field fs k) q (integer fs k q)

pub integer_clear : (n : ℕ) (fs : Fields) (k : ℕ) (q : Quantity ℤ) → signed_fault n fs k q ≡ None → IntegerRead fs k q
unfolding counted_fault counted signed_in
integer_clear n fs k q e =
    let r = number_clear n k (number_of (field fs k)) (signed_in q) e in
    let x = r.0 in
    let s = signed_some q x.negative (whole_count q.decimals x) r.1 r.3 in
    let value : integer fs k q ≡ r.1 = ap (λ (o : Option Number). unwrap_or (bound o (signed_in q)) (pos 0)) r.2 ∙ ap (λ (o : Option ℤ). unwrap_or o (pos 0)) r.3 in
    let is_signed : integer fs k q ≡ signed_value x.negative s.0 = value ∙ s.2 in
    record {
      least = subst (λ (z : ℤ). q.low ≤ℤ z) (sym value) s.3;
      most = subst (λ (z : ℤ). z ≤ℤ q.high) (sym value) s.4;
      prints =
          subst (λ (z : ℤ). Prints (field fs k) q z) (sym is_signed)
          (subst (λ (o : Option Number). IsNumber o q.decimals (signed_value x.negative s.0)) (sym r.2)
          (printed_count x.negative x.digits (raising q.decimals x) (lowering x) s.0 s.1));
    }
