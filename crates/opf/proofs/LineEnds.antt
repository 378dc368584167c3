-- The first line of a text, by its first LF, and texts of line ends alone.
use Rattle.std.proofs.Common.{◌≡◌, ℕ, zero, suc, ◌+◌, ◌<◌, ◌≤◌, Bool, true, false, ◌&&◌, ◌||◌, eqb, List, [], ◌∷◌, length, take, drop, Some, None, Bor, MatchOption, not, sym, refl, ap, ◌∙◌, ⊎_elim, add-one, one-add, arith}
use Rattle.std.specs.List.{prefix_len}
use Rattle.std.specs.Bool.{then_some}
use Rattle.std.proofs.lemmas.List.{nil_from_length}
use Rattle.std.proofs.lemmas.Bool.{eqb-true, eqb-false, both_ways, and_right, and_cases, and_parts, or_right, cases_Bool}
use Rattle.text.specs.Bytes.{every, other_than, without_cr, cut_at}
use Rattle.text.proofs.Cuts.{cut_cases}
use Rattle.opf.specs.Text.{lines, onto, at_lf}
use Rattle.opf.specs.Files.{blank}
use Rattle.opf.proofs.Runs.{onto_length}

-- what stands before the first LF, without a CR at its end
abbrev front : List ℕ → List ℕ
front s = without_cr (take (prefix_len (other_than 10) s) s)

abbrev after : List ℕ → List ℕ
after s = drop (prefix_len (other_than 10) s + 1) s

longer : (b : ℕ) (s : List ℕ) → eqb b 10 ≡ false → prefix_len (other_than 10) (b ∷ s) ≡ suc (prefix_len (other_than 10) s)
longer b s f = rw f (one-add (prefix_len (other_than 10) s))

lf_first : (s : List ℕ) → at_lf s ≡ true → prefix_len (other_than 10) s ≡ 0
lf_first [] t = refl
lf_first (c ∷ s) t = let v : eqb c 10 ≡ true = t in rw v

-- a byte in front of what stands before the LF
front_step : (b : ℕ) (s : List ℕ) (n : ℕ) → n < length s → (n ≡ 0 → eqb b 13 ≡ false) → without_cr (take (suc n) (b ∷ s)) ≡ b ∷ without_cr (take n s)
front_step b s zero h k = let f : eqb b 13 ≡ false = k refl in rw f
front_step b [] (suc n) h k = absurd (omega arith)
front_step b (c ∷ s) (suc n) h k = refl

lf_from : (s : List ℕ) → prefix_len (other_than 10) s < length s → prefix_len (other_than 10) s ≡ 0 → at_lf s ≡ true
lf_from [] h e = absurd (omega arith)
lf_from (c ∷ s) h e = ⊎_elim (λ t. t) (λ f. absurd (let z = longer c s f in omega arith)) (cases_Bool (eqb c 10))

front_more : (b : ℕ) (s : List ℕ) → eqb b 10 ≡ false → (eqb b 13 && at_lf s) ≡ false → prefix_len (other_than 10) s < length s → front (b ∷ s) ≡ b ∷ front s
front_more b s f g h =
    ap (λ (n : ℕ). without_cr (take n (b ∷ s))) (longer b s f)
    ∙ front_step b s (prefix_len (other_than 10) s) h
    (λ e. ⊎_elim (λ x. x) (λ y. absurd (both_ways (at_lf s) y (lf_from s h e))) (and_cases (eqb b 13) (at_lf s) g))

-- a CR right before the LF
front_cr : (b : ℕ) (s : List ℕ) → eqb b 10 ≡ false → eqb b 13 ≡ true → at_lf s ≡ true → front (b ∷ s) ≡ front s
front_cr b s f t u =
    ap (λ (n : ℕ). without_cr (take n (b ∷ s))) (longer b s f ∙ ap suc (lf_first s u))
    ∙ (let gone : without_cr (b ∷ []) ≡ [] = rw t in gone)
    ∙ sym (ap (λ (n : ℕ). without_cr (take n s)) (lf_first s u))

after_more : (b : ℕ) (s : List ℕ) → eqb b 10 ≡ false → after (b ∷ s) ≡ after s
after_more b s f =
    ap (λ (n : ℕ). drop (n + 1) (b ∷ s)) (longer b s f)
    ∙ ap (λ (n : ℕ). drop n (b ∷ s)) (add-one (suc (prefix_len (other_than 10) s)))
    ∙ sym (ap (λ (n : ℕ). drop n s) (add-one (prefix_len (other_than 10) s)))

line_ends : (s : List ℕ) → prefix_len (other_than 10) s < length s → lines s ≡ front s ∷ lines (after s)
line_ends [] h = absurd (omega arith)
line_ends (b ∷ s) h =
    ⊎_elim
    (λ t. rw t)
    (λ f.
    let i : prefix_len (other_than 10) s < length s = omega (arith, longer b s f) in
    ⊎_elim
    (λ t. let p = and_parts (eqb b 13) (at_lf s) t in rw (front_cr b s f p.0 p.1, after_more b s f, f, t) (line_ends s i))
    (λ g. rw (front_more b s f g i, after_more b s f, f, g) (ap (onto b) (line_ends s i)))
    (cases_Bool (eqb b 13 && at_lf s)))
    (cases_Bool (eqb b 10))

not_lf : (c : ℕ) (s : List ℕ) → prefix_len (other_than 10) (c ∷ s) ≡ length (c ∷ s) → eqb c 10 ≡ false
not_lf c s e =
    ⊎_elim (λ t. absurd (let z : prefix_len (other_than 10) (c ∷ s) ≡ 0 = rw t in omega arith)) (λ f. f) (cases_Bool (eqb c 10))

line_last : (s : List ℕ) → 0 < length s → prefix_len (other_than 10) s ≡ length s → lines s ≡ s ∷ []
line_last [] h e = absurd (omega arith)
line_last (b ∷ []) h e =
    ⊎_elim
    (λ t. absurd (let z : prefix_len (other_than 10) (b ∷ []) ≡ 0 = rw t in omega arith))
    (λ f. rw f (let g : (eqb b 13 && false) ≡ false = and_right (eqb b 13) false refl in rw g))
    (cases_Bool (eqb b 10))
line_last (b ∷ c ∷ s) h e =
    ⊎_elim
    (λ t. absurd (let z : prefix_len (other_than 10) (b ∷ c ∷ s) ≡ 0 = rw t in omega arith))
    (λ f.
    let i : prefix_len (other_than 10) (c ∷ s) ≡ length (c ∷ s) = omega (arith, longer b (c ∷ s) f) in
    let g : (eqb b 13 && eqb c 10) ≡ false = and_right (eqb b 13) (eqb c 10) (not_lf c s i) in
    rw (f, g, line_last (c ∷ s) (omega arith) i))
    (cases_Bool (eqb b 10))

pub line_cut : (s l r : List ℕ) → Some (l, r) ≡ cut_at 10 s → lines s ≡ without_cr l ∷ lines r
line_cut s l r e =
    let k = cut_cases 10 s (Some (l, r)) e in
    line_ends s k.0 ∙ ap (λ (x : List ℕ). without_cr x ∷ lines (after s)) (sym k.1) ∙ ap (λ (x : List ℕ). without_cr l ∷ lines x) (sym k.2)

-- the last line, which no LF ends
pub last_line : (s : Bor (List ℕ)) (t : List ℕ) → None ≡ cut_at 10 s.now → t ≡ [] → MatchOption (then_some (not (eqb (length s.now) 0)) s) ((lines s.now ≡ []) × (lines t ≡ [])) (λ x. lines s.now ≡ x.now ∷ lines t)
last_line s t e h =
    ⊎_elim
    (λ (y : eqb (length s.now) 0 ≡ true). rw y (ap lines (nil_from_length s.now (eqb-true (length s.now) 0 y)), ap lines h))
    (λ (n : eqb (length s.now) 0 ≡ false).
    let some : 0 < length s.now = omega (arith, eqb-false (length s.now) 0 n) in
    rw n (line_last s.now some (cut_cases 10 s.now None e) ∙ ap (λ (x : List ℕ). s.now ∷ lines x) (sym h)))
    (cases_Bool (eqb (length s.now) 0))

-- no more lines than bytes
pub lines_few : (s : List ℕ) → length (lines s) ≤ length s
lines_few [] = omega arith
lines_few (b ∷ s) =
    ⊎_elim
    (λ (t : eqb b 10 ≡ true). rw t (omega (arith, lines_few s)))
    (λ (f : eqb b 10 ≡ false).
    ⊎_elim
    (λ (t : (eqb b 13 && at_lf s) ≡ true). rw (f, t) (omega (arith, lines_few s)))
    (λ (g : (eqb b 13 && at_lf s) ≡ false). rw (f, g) (omega (arith, onto_length b (lines s), lines_few s)))
    (cases_Bool (eqb b 13 && at_lf s)))
    (cases_Bool (eqb b 10))

-- Nothing but line ends.

-- LF or CR
abbrev pub line_end : ℕ → Bool
line_end b = eqb b 10 || eqb b 13

blank_onto : (b : ℕ) (ls : List (List ℕ)) → blank (onto b ls) ≡ (eqb b 13 && blank ls)
blank_onto b [] = ⊎_elim (λ t. rw t) (λ f. rw f) (cases_Bool (eqb b 13))
blank_onto b (l ∷ ls) = ⊎_elim (λ t. rw t) (λ f. rw f) (cases_Bool (eqb b 13))

lines_past : (b : ℕ) (s : List ℕ) → eqb b 10 ≡ false → (eqb b 13 && at_lf s) ≡ true → lines (b ∷ s) ≡ lines s
lines_past b s f t = rw (t, f)

lines_kept : (b : ℕ) (s : List ℕ) → eqb b 10 ≡ false → (eqb b 13 && at_lf s) ≡ false → lines (b ∷ s) ≡ onto b (lines s)
lines_kept b s f g = rw (g, f)

every_other : (b : ℕ) (s : List ℕ) → eqb b 10 ≡ false → every line_end (b ∷ s) ≡ (eqb b 13 && every line_end s)
every_other b s f = rw f

every_past : (b : ℕ) (s : List ℕ) → eqb b 13 ≡ true → every line_end (b ∷ s) ≡ every line_end s
every_past b s t = let e : line_end b ≡ true = or_right (eqb b 10) (eqb b 13) t in rw e

pub blank_is : (s : List ℕ) → every line_end s ≡ blank (lines s)
blank_is [] = refl
blank_is (b ∷ s) =
    ⊎_elim
    (λ t. rw t (blank_is s))
    (λ f.
    ⊎_elim
    (λ t. every_past b s (and_parts (eqb b 13) (at_lf s) t).0 ∙ blank_is s ∙ ap blank (sym (lines_past b s f t)))
    (λ g. every_other b s f ∙ ap (λ r. eqb b 13 && r) (blank_is s) ∙ sym (blank_onto b (lines s)) ∙ ap blank (sym (lines_kept b s f g)))
    (cases_Bool (eqb b 13 && at_lf s)))
    (cases_Bool (eqb b 10))
