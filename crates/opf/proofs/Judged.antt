-- In a file without a fault there are 22 data lines, and none has a fault.
use Rattle.std.proofs.Common.{◌≡◌, ℕ, ◌+◌, ◌-◌, ◌<◌, ◌≤◌, Bool, true, false, cond, leb, List, [], ◌∷◌, ◌++◌, length, get_or, take, Some, None, Option, sym, refl, ap, ◌∙◌, subst, ⊎_elim, arith}
use Rattle.std.proofs.lemmas.List.{append_assoc, append-nil, take-append-le, take_at, get_or_append_left, get_or_push, length_push, length-take-le}
use Rattle.std.proofs.lemmas.Bool.{leb-true, cases_lt}
use Rattle.refusal.specs.declared.fault.Fault.{Fault}
use Rattle.refusal.specs.declared.fault.Fault.TheVariants as fault
use Rattle.opf.specs.Faults.{unless, first_of}
use Rattle.opf.specs.Text.{text_fault, line_of, Line, comment, data_line, last}
use Rattle.opf.specs.Fields.{fields}
use Rattle.opf.specs.DataLines.{Fields, nth_line, engine_of, came, faults_at, data_fault}
use Rattle.opf.specs.Files.{by_line, data_lines, line_fault, blank, lines_fault}
use Rattle.opf.proofs.Accepted.{some_is_not_none}
use Rattle.opf.proofs.Drafts.{none_first}
use Rattle.opf.proofs.Files.{blank_has_none}

-- no data line has a fault after those before it
abbrev pub Clear : List Fields → Type 0
Clear d = (k : ℕ) → k < length d → (n : ℕ) × (data_fault n (take k d) (get_or d k []) ≡ None)

pub test_holds : (b : Bool) (f : Fault) → unless b f ≡ None → b ≡ true
test_holds true f e = refl
test_holds false f e = absurd (some_is_not_none f e)

clear_more : (d : List Fields) (fs : Fields) (n : ℕ) → Clear d → data_fault n d fs ≡ None → Clear (d ++ (fs ∷ []))
clear_more d fs n c e k h =
    ⊎_elim
    (λ (l : k < length d).
    let r = c k l in
    (r.0, ap (λ (t : List Fields). data_fault r.0 t (get_or (d ++ (fs ∷ [])) k [])) (take-append-le k d (fs ∷ []) (omega arith)) ∙ ap (data_fault r.0 (take k d)) (get_or_append_left d (fs ∷ []) [] k l) ∙ r.1))
    (λ (m : length d ≤ k).
    let at_end : length d ≡ k = omega (arith, length_push d fs) in
    (n, ap (λ (t : List Fields). data_fault n t (get_or (d ++ (fs ∷ [])) k [])) (take_at d (fs ∷ []) k at_end) ∙ ap (data_fault n d) (get_or_push d fs [] k at_end) ∙ e))
    (cases_lt k (length d))

-- there are at most 22
few : (d : List Fields) → Clear d → length d ≤ 22
few d c =
    ⊎_elim
    (λ (l : 22 < length d).
    let r = c 22 l in
    let t = leb-true (length (take 22 d) + 1) 22 (test_holds (leb (length (take 22 d) + 1) 22) (fault.DataLines r.0) (none_first _ _ r.1).0) in
    absurd (omega (arith, t, length-take-le 22 d (omega arith))))
    (λ m. m)
    (cases_lt 22 (length d))

pub record Whole (d : List Fields) : Type 0 where
  pub clear : Clear d
  pub count : length d ≡ 22

module _ (ls : List (List ℕ)) (onward : (m : ℕ) (e : List Fields) → lines_fault m e ls ≡ None → Clear e → Whole (e ++ data_lines ls)) where
  by_kind : (o : Option Line) (n : ℕ) (d : List Fields) → by_line o None (λ s. data_fault n d (fields s)) (unless (leb 22 (length d)) (fault.DataLines n)) (Some (fault.LineStart n)) ≡ None → cond (by_line o false (λ s. false) true false) (unless (blank ls) (fault.AfterEnd n)) (lines_fault (n + 1) (d ++ by_line o [] (λ s. fields s ∷ []) [] []) ls) ≡ None → Clear d → Whole (d ++ (by_line o [] (λ s. fields s ∷ []) [] [] ++ data_lines ls))
  by_kind None n d e f c = absurd (some_is_not_none (fault.LineStart n) e)
  by_kind (Some (comment s)) n d e f c =
      let same : d ++ [] ≡ d = append-nil d in
      onward (n + 1) d (ap (λ (x : List Fields). lines_fault (n + 1) x ls) (sym same) ∙ f) c
  by_kind (Some (data_line s)) n d e f c =
      subst Whole (append_assoc d (fields s ∷ []) (data_lines ls)) (onward (n + 1) (d ++ (fields s ∷ [])) f (clear_more d (fields s) n c e))
  by_kind (Some (last s)) n d e f c =
      let least = leb-true 22 (length d) (test_holds (leb 22 (length d)) (fault.DataLines n) e) in
      let none = blank_has_none ls (test_holds (blank ls) (fault.AfterEnd n) f) in
      subst Whole (sym (append-nil d) ∙ ap (λ (x : List Fields). d ++ x) (sym none)) (record { clear = c; count = omega (arith, few d c, least) })

pub whole_from : (ls : List (List ℕ)) (n : ℕ) (d : List Fields) → lines_fault n d ls ≡ None → Clear d → Whole (d ++ data_lines ls)
whole_from [] n d e c = absurd (some_is_not_none fault.NoEnd e)
whole_from (l ∷ ls) n d e c =
    let p = none_first (line_fault n d l) _ e in
    by_kind ls (whole_from ls) (line_of l) n d (none_first (text_fault n l) _ p.0).1 p.1 c

-- the data line that comes k-th
pub line_clear : {d : List Fields} → Whole d → (k : ℕ) → 1 ≤ k → k ≤ 22 → (n : ℕ) × (first_of (faults_at k n (engine_of (nth_line (take (k - 1) d) 1)) (came (take (k - 1) d)) (nth_line d k)) ≡ None)
line_clear {d} w k low high =
    let within : k - 1 < length d = omega (arith, w.count) in
    let r = w.clear (k - 1) within in
    let place : length (take (k - 1) d) + 1 ≡ k = omega (arith, length-take-le (k - 1) d (omega arith)) in (
      r.0,
      ap (λ (j : ℕ). first_of (faults_at j r.0 (engine_of (nth_line (take (k - 1) d) 1)) (came (take (k - 1) d)) (nth_line d k))) (sym place)
          ∙ (none_first _ _ r.1).1,
    )
