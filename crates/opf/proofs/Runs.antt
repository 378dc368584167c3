-- The runs of bytes other than spaces, one at a time.
use Rattle.std.proofs.Common.{◌≡◌, ℕ, suc, ◌<◌, ◌≤◌, Bool, true, false, not, eqb, ltb, List, [], ◌∷◌, length, take, drop, Some, None, Option, Bor, MatchOption, sym, refl, ap, ◌∙◌, ⊎_elim, one-add, arith}
use Rattle.std.specs.List.{position, position_or_len}
use Rattle.std.specs.Option.{option_map, unwrap_or}
use Rattle.std.proofs.lemmas.Bool.{cases_Bool, not_from_true, not_from_false, ltb-true, ltb-false}
use Rattle.std.proofs.lemmas.List.Sums.{prefix_len-le-length}
use Rattle.text.specs.Bytes.{is_byte, other_than}
use Rattle.opf.specs.Text.{onto}
use Rattle.opf.specs.Fields.{in_run, runs}

-- what the first place tells
pub place_cases : (p : ℕ → Bool) (s : List ℕ) (o : Option ℕ) → o ≡ position p s → MatchOption o (position_or_len p s ≡ length s) (λ n. (position_or_len p s < length s) × (n ≡ position_or_len p s))
place_cases p s None e =
    ⊎_elim
    (λ (t : ltb (position_or_len p s) (length s) ≡ true). let v = rw t at e in cc)
    (λ (f : ltb (position_or_len p s) (length s) ≡ false). omega (arith, ltb-false (position_or_len p s) (length s) f, prefix_len-le-length (λ x. not (p x)) s))
    (cases_Bool (ltb (position_or_len p s) (length s)))
place_cases p s (Some n) e =
    ⊎_elim
    (λ (t : ltb (position_or_len p s) (length s) ≡ true). let v = rw t at e in (ltb-true (position_or_len p s) (length s) t, cc))
    (λ (f : ltb (position_or_len p s) (length s) ≡ false). let v = rw f at e in cc)
    (cases_Bool (ltb (position_or_len p s) (length s)))

-- the first place, or the length where there is none
pub place_or_all : (p : ℕ → Bool) (s : List ℕ) (o : Option ℕ) → o ≡ position p s → unwrap_or o (length s) ≡ position_or_len p s
place_or_all p s None e = sym (place_cases p s None e)
place_or_all p s (Some n) e = let k = place_cases p s (Some n) e in k.1

-- how many spaces stand in front
abbrev blanks : List ℕ → ℕ
blanks s = position_or_len (other_than 32) s

-- how long the run in front is
abbrev run : List ℕ → ℕ
run s = position_or_len (is_byte 32) s

spaces_more : (b : ℕ) (s : List ℕ) → eqb b 32 ≡ true → blanks (b ∷ s) ≡ suc (blanks s)
spaces_more b s t = rw t (one-add (blanks s))

no_space : (b : ℕ) (s : List ℕ) → eqb b 32 ≡ false → blanks (b ∷ s) ≡ 0
no_space b s f = rw f

abbrev unspaced : List ℕ → List ℕ
unspaced s = drop (blanks s) s

unspaced_more : (b : ℕ) (s : List ℕ) → eqb b 32 ≡ true → unspaced (b ∷ s) ≡ unspaced s
unspaced_more b s t = ap (λ (n : ℕ). drop n (b ∷ s)) (spaces_more b s t)

unspaced_here : (b : ℕ) (s : List ℕ) → eqb b 32 ≡ false → unspaced (b ∷ s) ≡ b ∷ s
unspaced_here b s f = ap (λ (n : ℕ). drop n (b ∷ s)) (no_space b s f)

run_length : (b : ℕ) (s : List ℕ) → eqb b 32 ≡ false → run (b ∷ s) ≡ suc (run s)
run_length b s f = rw f (one-add (run s))

run_none : (b : ℕ) (s : List ℕ) → eqb b 32 ≡ true → run (b ∷ s) ≡ 0
run_none b s t = rw t

alone : (b : ℕ) (t : List ℕ) → eqb b 32 ≡ false → in_run t ≡ false → runs (b ∷ t) ≡ (b ∷ []) ∷ runs t
alone b t f e = rw (f, e)

joins : (b : ℕ) (t : List ℕ) → eqb b 32 ≡ false → in_run t ≡ true → runs (b ∷ t) ≡ onto b (runs t)
joins b t f e = rw (f, e)

-- the run that begins here
runs_first : (b : ℕ) (s : List ℕ) → eqb b 32 ≡ false → runs (b ∷ s) ≡ (b ∷ take (run s) s) ∷ runs (drop (run s) s)
runs_first b [] f = rw f
runs_first b (c ∷ s) f =
    ⊎_elim
    (λ t.
    alone b (c ∷ s) f (not_from_true (eqb c 32) t)
    ∙ ap (λ (n : ℕ). (b ∷ take n (c ∷ s)) ∷ runs (drop n (c ∷ s))) (sym (run_none c s t)))
    (λ g.
    joins b (c ∷ s) f (not_from_false (eqb c 32) g)
    ∙ ap (onto b) (runs_first c s g)
    ∙ ap (λ (n : ℕ). (b ∷ take n (c ∷ s)) ∷ runs (drop n (c ∷ s))) (sym (run_length c s g)))
    (cases_Bool (eqb c 32))

-- spaces alone
pub no_run : (s : List ℕ) → blanks s ≡ length s → runs s ≡ []
no_run [] e = refl
no_run (b ∷ s) e =
    ⊎_elim
    (λ t. rw t (no_run s (let m = spaces_more b s t in omega arith)))
    (λ f. absurd (let z = no_space b s f in omega arith))
    (cases_Bool (eqb b 32))

-- the first run behind spaces in front
pub first_run : (s t : List ℕ) (n : ℕ) → blanks s < length s → t ≡ unspaced s → n ≡ run t → runs s ≡ take n t ∷ runs (drop n t)
first_run [] t n h e m = absurd (omega arith)
first_run (b ∷ s) t n h e m =
    ⊎_elim
    (λ u. rw u (first_run s t n (let k = spaces_more b s u in omega arith) (e ∙ unspaced_more b s u) m))
    (λ f. rw (m, e, unspaced_here b s f) (runs_first b s f ∙ ap (λ (k : ℕ). take k (b ∷ s) ∷ runs (drop k (b ∷ s))) (sym (run_length b s f))))
    (cases_Bool (eqb b 32))

pub onto_length : (b : ℕ) (ls : List (List ℕ)) → length (onto b ls) ≤ suc (length ls)
onto_length b [] = omega arith
onto_length b (l ∷ ls) = omega arith

-- no more fields than bytes
pub runs_few : (s : List ℕ) → length (runs s) ≤ length s
runs_few [] = omega arith
runs_few (b ∷ []) =
    ⊎_elim
    (λ (t : eqb b 32 ≡ true). rw t (omega arith))
    (λ (f : eqb b 32 ≡ false). rw f (omega arith))
    (cases_Bool (eqb b 32))
runs_few (b ∷ c ∷ s) =
    ⊎_elim
    (λ (t : eqb b 32 ≡ true). rw t (omega (arith, runs_few (c ∷ s))))
    (λ (f : eqb b 32 ≡ false).
    ⊎_elim
    (λ (t : eqb c 32 ≡ true). let few : length (runs s) ≤ suc (length s) = rw t at (runs_few (c ∷ s)) in rw (f, t) (omega arith))
    (λ (g : eqb c 32 ≡ false). let e : runs (b ∷ c ∷ s) ≡ onto b (runs (c ∷ s)) = rw (f, g) in rw e (omega (arith, onto_length b (runs (c ∷ s)), runs_few (c ∷ s))))
    (cases_Bool (eqb c 32)))
    (cases_Bool (eqb b 32))

-- the bytes behind a reference, or behind another where there is none
pub behind : (o : Option (Bor (List ℕ))) (d : Bor (List ℕ)) → (unwrap_or o d).now ≡ unwrap_or (option_map (λ x. x.now) o) d.now
behind None d = refl
behind (Some x) d = refl
