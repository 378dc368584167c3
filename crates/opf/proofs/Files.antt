-- The lines of a file one by one.
use Rattle.std.proofs.Common.{◌≡◌, ℕ, ◌+◌, Bool, true, false, cond, eqb, List, [], ◌∷◌, ◌++◌, None, Ok, Err, Option, sym, refl, ap, ◌∙◌}
use Rattle.std.proofs.lemmas.List.{append_assoc, append-nil}
use Rattle.std.proofs.lemmas.Bool.{eqb-true, and_parts}
use Rattle.refusal.specs.declared.fault.Fault.{Fault}
use Rattle.refusal.specs.declared.fault.Fault.TheVariants as fault
use Rattle.aircraft.specs.declared.draft.Draft.{Draft}
use Rattle.aircraft.specs.Drafts.{empty_draft}
use Rattle.opf.specs.Faults.{unless, or_else, judge}
use Rattle.text.specs.Bytes.{every, is_byte}
use Rattle.opf.specs.Text.{line_of, letters}
use Rattle.opf.specs.Numbers.{number_of}
use Rattle.opf.specs.DataLines.{Fields, counted}
use Rattle.opf.specs.Files.{own_fields, is_end, data_lines, line_fault, blank, lines_fault, draft_of}

pub empty_is : empty_draft ≡ draft_of []
unfolding counted number_of
empty_is = refl

-- a line of CR alone is no data line
cr_letters : (a b : ℕ) (rest : List ℕ) → a ≡ 13 → letters a b rest ≡ None
cr_letters a b rest e = rw e

blank_line : (l : List ℕ) → every (is_byte 13) l ≡ true → line_of l ≡ None
blank_line [] h = refl
blank_line (a ∷ []) h = refl
blank_line (a ∷ b ∷ rest) h = cr_letters a b rest (eqb-true a 13 (and_parts (eqb a 13) (every (is_byte 13) (b ∷ rest)) h).0)

pub blank_has_none : (ls : List (List ℕ)) → blank ls ≡ true → data_lines ls ≡ []
blank_has_none [] h = refl
blank_has_none (l ∷ ls) h =
    let p = and_parts (every (is_byte 13) l) (blank ls) h in
    rw (blank_line l p.0) (blank_has_none ls p.1)

-- line n is l, and `rest` is left after it
module _ (all left : List (List ℕ)) (m n : ℕ) (d : List Fields) (l : List ℕ) (rest : List (List ℕ)) (counted : n ≡ m) (cuts : left ≡ l ∷ rest) (faults : lines_fault m d left ≡ lines_fault 1 [] all) (given : d ++ data_lines left ≡ data_lines all) (clear : line_fault n d l ≡ None) where
  next_fault : ℕ → Bool → Option Fault
  next_fault k t = cond t (unless (blank rest) (fault.AfterEnd k)) (lines_fault (k + 1) (d ++ own_fields l) rest)

  rest_fault : lines_fault 1 [] all ≡ next_fault n (is_end l)
  unfolding next_fault
  rest_fault =
      sym faults
      ∙ ap (λ (k : ℕ). lines_fault k d left) (sym counted)
      ∙ ap (lines_fault n d) cuts
      ∙ ap (λ (f : Option Fault). or_else f (next_fault n (is_end l))) clear

  rest_given : (d ++ own_fields l) ++ data_lines rest ≡ data_lines all
  rest_given = append_assoc d (own_fields l) (data_lines rest) ∙ ap (λ (x : List (List ℕ)). d ++ data_lines x) (sym cuts) ∙ given

  pub goes_on : false ≡ is_end l → (lines_fault (n + 1) (d ++ own_fields l) rest ≡ lines_fault 1 [] all) × ((d ++ own_fields l) ++ data_lines rest ≡ data_lines all)
  unfolding next_fault
  goes_on e = (ap (next_fault n) e ∙ sym rest_fault, rest_given)

  pub ends_well : (x : Draft) → true ≡ is_end l → true ≡ blank rest → x ≡ draft_of (d ++ own_fields l) → Ok x ≡ judge (lines_fault 1 [] all) (draft_of (data_lines all))
  unfolding next_fault
  ends_well x e b g =
      let none : lines_fault 1 [] all ≡ None = rest_fault ∙ ap (next_fault n) (sym e) ∙ ap (λ (t : Bool). unless t (fault.AfterEnd n)) (sym b) in
      let whole : d ++ own_fields l ≡ data_lines all =
      sym (append-nil (d ++ own_fields l)) ∙ ap (λ (r : List Fields). (d ++ own_fields l) ++ r) (sym (blank_has_none rest (sym b))) ∙ rest_given in
      ap Ok (g ∙ ap draft_of whole) ∙ ap (λ (f : Option Fault). judge f (draft_of (data_lines all))) (sym none)

  pub ends_badly : true ≡ is_end l → false ≡ blank rest → Err (fault.AfterEnd n) ≡ judge (lines_fault 1 [] all) (draft_of (data_lines all))
  unfolding next_fault
  ends_badly e b =
      ap (λ (f : Option Fault). judge f (draft_of (data_lines all))) (sym (rest_fault ∙ ap (next_fault n) (sym e) ∙ ap (λ (t : Bool). unless t (fault.AfterEnd n)) (sym b)))
