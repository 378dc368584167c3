-- Where a line is cut, and a CR at its end.
use Rattle.std.proofs.Common.{◌≡◌, ℕ, ◌+◌, ◌-◌, ◌<◌, Bool, true, false, cond, eqb, ltb, List, [], ◌∷◌, length, take, drop, Some, None, Option, refl, ap, ◌∙◌, ⊎_elim, Bor, MatchOption, arith}
use native.Mathlib.Numerals.{unary_clauses}
use lib.Pointwise.{pointwise}
use Rattle.std.specs.List.{position, position_or_len, prefix_len}
use Rattle.std.specs.Option.{unwrap_or, option_map}
use Rattle.std.proofs.lemmas.Bool.{cases_Bool, ltb-true, ltb-false}
use Rattle.std.proofs.lemmas.List.Sums.{prefix_len-le-length}
use Rattle.text.specs.Bytes.{is_byte, other_than, cut_at, without_cr}

-- a line is cut where the byte's first place is found
abbrev pub cut_by : List ℕ → ℕ → List ℕ × List ℕ
cut_by s n = (take n s, drop (n + 1) s)

at_place : (t : Bool) (s : List ℕ) (n : ℕ) → option_map (cut_by s) (cond t (Some n) None) ≡ cond t (Some (cut_by s n)) None
at_place true s n = refl
at_place false s n = refl

pub cut_is : (b : ℕ) (s : List ℕ) (o : Option ℕ) → o ≡ position (is_byte b) s → option_map (cut_by s) o ≡ cut_at b s
cut_is b s o e = ap (option_map (cut_by s)) e ∙ at_place (ltb (position_or_len (is_byte b) s) (length s)) s (position_or_len (is_byte b) s)

-- what a cut tells
pub cut_cases : (b : ℕ) (s : List ℕ) (o : Option (List ℕ × List ℕ)) → o ≡ cut_at b s → MatchOption o (prefix_len (other_than b) s ≡ length s) (λ p. (prefix_len (other_than b) s < length s) × (p.0 ≡ take (prefix_len (other_than b) s) s) × (p.1 ≡ drop (prefix_len (other_than b) s + 1) s))
cut_cases b s None e =
    ⊎_elim
    (λ (t : ltb (prefix_len (other_than b) s) (length s) ≡ true). let v = rw t at e in cc)
    (λ (f : ltb (prefix_len (other_than b) s) (length s) ≡ false). omega (arith, ltb-false (prefix_len (other_than b) s) (length s) f, prefix_len-le-length (other_than b) s))
    (cases_Bool (ltb (prefix_len (other_than b) s) (length s)))
cut_cases b s (Some p) e =
    ⊎_elim
    (λ (t : ltb (prefix_len (other_than b) s) (length s) ≡ true). let v = rw t at e in (ltb-true (prefix_len (other_than b) s) (length s) t, cc, cc))
    (λ (f : ltb (prefix_len (other_than b) s) (length s) ≡ false). let v = rw f at e in cc)
    (cases_Bool (ltb (prefix_len (other_than b) s) (length s)))

cr_goes : (s : List ℕ) → pointwise eqb (drop (length s - 1) s) (13 ∷ []) ≡ true → take (length s - 1) s ≡ without_cr s
cr_goes [] t = cc
cr_goes (b ∷ []) t = ⊎_elim (λ (e : eqb b 13 ≡ true). rw e) (λ (f : eqb b 13 ≡ false). let v : false ≡ true = rw f at t in cc) (cases_Bool (eqb b 13))
cr_goes (b ∷ c ∷ s) t = simp unary_clauses (ap (λ r. b ∷ r) (simp unary_clauses at (cr_goes (c ∷ s) (simp unary_clauses (simp unary_clauses at t)))))

others_stay : (s : List ℕ) → pointwise eqb (drop (length s - 1) s) (13 ∷ []) ≡ false → s ≡ without_cr s
others_stay [] f = refl
others_stay (b ∷ []) f = ⊎_elim (λ (e : eqb b 13 ≡ true). let v : true ≡ false = rw e at f in cc) (λ (g : eqb b 13 ≡ false). rw g) (cases_Bool (eqb b 13))
others_stay (b ∷ c ∷ s) f = ap (λ r. b ∷ r) (others_stay (c ∷ s) (simp unary_clauses (simp unary_clauses at f)))

pub stripped : (s : Bor (List ℕ)) (o : Option (Bor (List ℕ))) → MatchOption o (pointwise eqb (drop (length s.now - 1) s.now) (13 ∷ []) ≡ false) (λ x. (pointwise eqb (drop (length s.now - 1) s.now) (13 ∷ []) ≡ true) × (x.now ≡ take (length s.now - 1) s.now) × (length x.now + 1 ≡ length s.now)) → (unwrap_or o s).now ≡ without_cr s.now
stripped s None h = others_stay s.now h
stripped s (Some x) h = h.1 ∙ cr_goes s.now h.0
