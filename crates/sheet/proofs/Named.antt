-- What the forms of a line come to where its words are known.
use Rattle.std.proofs.Common.{◌≡◌, ◌≢◌, ℕ, ◌+◌, ◌<◌, false, true, cond, Bool, List, [], ◌∷◌, length, Some, None, codes, refl, ap, ⊎_elim, arith}
use Rattle.std.specs.List.{prefix_len}
use Rattle.std.specs.Str.{bytes_eq}
use Rattle.std.proofs.lemmas.Bool.{ne_eqb, lt-ltb, cases_Bool}
use Rattle.std.proofs.lemmas.List.{drop_all}
use Rattle.std.proofs.lemmas.Slice.Eq.{bytes_eq-Decides}
use Rattle.sheet.specs.declared.form.Form.TheVariants as form
use Rattle.sheet.specs.Words.{no_space, first_word, behind, has_more, and_then, number_of, positive_of, deviation_of}
use Rattle.sheet.specs.Forms.{start_form, form_by}

pub no_minus : (s : List ℕ) → ((rest : List ℕ) → s ≢ 45 ∷ rest) → deviation_of s ≡ positive_of s
no_minus [] h = refl
no_minus (b ∷ s) h = rw (ne_eqb b 45 (λ e. h s (ap (λ x. x ∷ s) e)))

-- a start with a reserve
pub reserved_start : (s : List ℕ) (z : ℕ) (rest fuel reserve : List ℕ) → (number_of (first_word s) ≡ Some z) × (rest ≡ behind s) → (fuel ≡ first_word rest) × (reserve ≡ behind rest) × (prefix_len no_space rest < length rest) → start_form s ≡ and_then (number_of fuel) (λ f. and_then (number_of reserve) (λ r. Some (form.Start (record { zero_fuel = z; fuel = f; reserve = Some r }))))
reserved_start s z rest fuel reserve before cut =
    let m : has_more rest ≡ true = lt-ltb (prefix_len no_space rest) (length rest) cut.2 in
    rw (before.0, ← before.1, m, cut.0, cut.1)

cond_same : {A : Type 0} (b : Bool) (x : A) → cond b x x ≡ x
cond_same true x = refl
cond_same false x = refl

other_bytes : (s t : List ℕ) → s ≢ t → bytes_eq s t ≡ false
other_bytes s t h = ⊎_elim (λ e. absurd (h ((bytes_eq-Decides s t).0 e))) (λ e. e) (cases_Bool (bytes_eq s t))

pub nothing_named : (s : List ℕ) → prefix_len no_space s ≡ length s → s ≢ codes "touchdown" → s ≢ codes "standard" → form_by (first_word s) s ≡ None
nothing_named s e t d =
    let none : behind s ≡ [] = drop_all (prefix_len no_space s + 1) s (omega arith) in
    rw (none, other_bytes s (codes "touchdown") t, other_bytes s (codes "standard") d) (simp cond_same)
