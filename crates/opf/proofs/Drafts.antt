-- The plain record one data line further.
use Rattle.std.proofs.Common.{◌≡◌, ℕ, ◌+◌, ◌-◌, ◌<◌, ◌≤◌, Bool, true, false, cond, ◌&&◌, eqb, leb, List, [], ◌∷◌, ◌++◌, length, take, drop, set, is_some, Some, None, Option, sym, refl, ap, ◌∙◌, ⊎_elim, arith, length-drop}
use mathlib.Core.Path.{fun_ext}
use Rattle.std.specs.Str.{bytes_eq}
use Rattle.std.proofs.lemmas.Slice.Eq.{bytes_eq-Decides}
use Rattle.std.proofs.lemmas.List.{get_or_append_left, get_or_push, get_or_past, drop_all, drop-append-le, take_all, take-append-le, length_push}
use Rattle.std.proofs.lemmas.Bool.{eq-eqb, ne_eqb, leb-true, leb-false, le-leb, cases_Bool, cases_lt, cases_eq, and_cases, and_parts, cond-true, cond-false}
use Rattle.refusal.specs.declared.fault.Fault.{Fault}
use Rattle.refusal.specs.declared.fault.Fault.TheVariants as fault
use Rattle.aircraft.specs.declared.words.EngineType.{EngineType}
use Rattle.aircraft.specs.declared.words.EngineType.TheVariants as engine
use Rattle.aircraft.specs.declared.words.Configuration.{Configuration}
use Rattle.aircraft.specs.declared.words.Configuration.TheVariants as flaps
use Rattle.aircraft.specs.declared.draft.Draft.{Draft}
use Rattle.aircraft.specs.declared.draft.DraftRow.{DraftRow}
use Rattle.aircraft.specs.Words.{configuration_word, configuration_row, first_named}
use Rattle.opf.specs.Faults.{or_else, first_of}
use Rattle.opf.specs.Fields.{field}
use Rattle.opf.specs.Numbers.{number_of}
use Rattle.opf.specs.DataLines.{Fields, counted, natural, nth_line, engine_of, masses_of, configuration_of, configuration_lines, names, line_naming, row_of, row_from, came, new_fault, configuration_faults, thrust_of, descent_of, consumption_of, idle_of, faults_at, data_fault}
use Rattle.opf.specs.Files.{draft_of}
use Rattle.opf.specs.Steps.{filled, rows_with, after_line}
use Rattle.opf.specs.Quantities as quantity

-- What is read off one data line.

nth_more : (data_lines : List Fields) (fs : Fields) (j k : ℕ) → length data_lines + 1 ≡ k → 1 ≤ j → nth_line (data_lines ++ (fs ∷ [])) j ≡ cond (eqb k j) fs (nth_line data_lines j)
nth_more ds fs j k e h =
    ⊎_elim
    (λ (t : k ≡ j).
    let at_end : length ds ≡ j - 1 = omega arith in
    rw (eq-eqb k j t) (get_or_push ds fs [] (j - 1) at_end))
    (λ (f : k ≡ j → ⊥).
    rw (ne_eqb k j f)
    (⊎_elim
    (λ (l : j - 1 < length ds). get_or_append_left ds (fs ∷ []) [] (j - 1) l)
    (λ (m : length ds ≤ j - 1).
    let long : length (ds ++ (fs ∷ [])) ≤ j - 1 = simp length_push (omega arith) in
    get_or_past (ds ++ (fs ∷ [])) (j - 1) [] long ∙ sym (get_or_past ds (j - 1) [] m))
    (cases_lt (j - 1) (length ds))))
    (cases_eq k j)

cond_after : {X Y : Type 0} (g : X → Y) (b : Bool) (x y : X) → g (cond b x y) ≡ cond b (g x) (g y)
cond_after g true x y = refl
cond_after g false x y = refl

at_line : {X : Type 0} (g : Fields → X) (data_lines : List Fields) (fs : Fields) (j k : ℕ) → length data_lines + 1 ≡ k → 1 ≤ j → g (nth_line (data_lines ++ (fs ∷ [])) j) ≡ cond (eqb k j) (g fs) (g (nth_line data_lines j))
at_line g ds fs j k e h = ap g (nth_more ds fs j k e h) ∙ cond_after g (eqb k j) fs (nth_line ds j)

-- a line that is not there gives the same for every engine
thrust_none : (e e' : EngineType) → thrust_of e [] ≡ thrust_of e' []
unfolding counted number_of
thrust_none engine.Jet engine.Jet = refl
thrust_none engine.Jet engine.Turboprop = refl
thrust_none engine.Turboprop engine.Jet = refl
thrust_none engine.Turboprop engine.Turboprop = refl

thrust_more : (data_lines : List Fields) (fs : Fields) (k : ℕ) → length data_lines + 1 ≡ k → thrust_of (engine_of (nth_line (data_lines ++ (fs ∷ [])) 1)) (nth_line (data_lines ++ (fs ∷ [])) 16) ≡ cond (eqb k 16) (thrust_of (engine_of (nth_line data_lines 1)) fs) (thrust_of (engine_of (nth_line data_lines 1)) (nth_line data_lines 16))
thrust_more [] fs k e =
    let one : eqb k 16 ≡ false = ne_eqb k 16 (λ t. omega arith) in
    rw one (thrust_none (engine_of fs) (engine_of []))
thrust_more (x ∷ ds) fs k e = at_line (thrust_of (engine_of x)) (x ∷ ds) fs 16 k e (omega arith)

-- The configuration that a word names.

pub first_is : {X : Type 0} (word : X → List ℕ) (xs : List X) (s : List ℕ) (x : X) → first_named word xs s ≡ Some x → s ≡ word x
first_is word [] s x e = absurd (let z : ◌≡◌ {A = ℕ} 0 1 = cc in omega arith)
first_is word (y ∷ xs) s x e =
    ⊎_elim
    (λ t. let same : Some y ≡ Some x = rw t at e in let y_is : y ≡ x = cc in (bytes_eq-Decides s (word y)).0 t ∙ ap word y_is)
    (λ f. first_is word xs s x (rw f at e))
    (cases_Bool (bytes_eq s (word y)))

pub names_are : (fs : Fields) (c d : Configuration) → configuration_of fs ≡ Some c → names d fs ≡ bytes_eq (configuration_word c) (configuration_word d)
names_are fs c d e = ap (λ (s : List ℕ). bytes_eq s (configuration_word d)) (first_is configuration_word (flaps.Cruise ∷ flaps.InitialClimb ∷ flaps.TakeOff ∷ flaps.Approach ∷ flaps.Landing ∷ []) (field fs 2) c e)

-- The rows one line further.

pub naming_more : (c : Configuration) (xs : List Fields) (fs : Fields) → is_some (line_naming c xs) ≡ false → line_naming c (xs ++ (fs ∷ [])) ≡ cond (names c fs) (Some fs) None
naming_more c [] fs h = refl
naming_more c (x ∷ xs) fs h =
    ⊎_elim
    (λ t. absurd (let z : true ≡ false = rw t at h in let y : ◌≡◌ {A = ℕ} 0 1 = cc in omega arith))
    (λ f. rw f (naming_more c xs fs (rw f at h)))
    (cases_Bool (names c x))

pub naming_same : (c : Configuration) (xs : List Fields) (fs : Fields) → names c fs ≡ false → line_naming c (xs ++ (fs ∷ [])) ≡ line_naming c xs
naming_same c [] fs h = rw h
naming_same c (x ∷ xs) fs h = ap (λ (o : Option Fields). cond (names c x) (Some x) o) (naming_same c xs fs h)

lines_outside : (data_lines : List Fields) (fs : Fields) (k : ℕ) → length data_lines + 1 ≡ k → (leb 5 k && leb k 9) ≡ false → configuration_lines (data_lines ++ (fs ∷ [])) ≡ configuration_lines data_lines
lines_outside ds fs k e out =
    ⊎_elim
    (λ (below : length ds < 4).
    let short : length (ds ++ (fs ∷ [])) ≤ 4 = simp length_push (omega arith) in
    ap (take 5) (drop_all 4 (ds ++ (fs ∷ [])) short ∙ sym (drop_all 4 ds (omega arith))))
    (λ (above : 4 ≤ length ds).
    let past : 9 ≤ length ds = ⊎_elim (λ f. absurd (omega (arith, leb-false 5 k f))) (λ f. omega (arith, leb-false k 9 f)) (and_cases (leb 5 k) (leb k 9) out) in
    let full : 5 ≤ length (drop 4 ds) = simp length-drop (omega arith) in
    ap (take 5) (drop-append-le 4 ds (fs ∷ []) above) ∙ take-append-le 5 (drop 4 ds) (fs ∷ []) full)
    (cases_lt (length ds) 4)

lines_inside : (data_lines : List Fields) (fs : Fields) (k : ℕ) → length data_lines + 1 ≡ k → (leb 5 k && leb k 9) ≡ true → configuration_lines (data_lines ++ (fs ∷ [])) ≡ configuration_lines data_lines ++ (fs ∷ [])
lines_inside ds fs k e inside =
    let p = and_parts (leb 5 k) (leb k 9) inside in
    let low : 5 ≤ k = leb-true 5 k p.0 in
    let high : k ≤ 9 = leb-true k 9 p.1 in
    let room : length (drop 4 ds) ≤ 5 = simp length-drop (omega arith) in
    let fits : length (drop 4 ds ++ (fs ∷ [])) ≤ 5 = simp (length_push, length-drop) (omega arith) in
    ap (take 5) (drop-append-le 4 ds (fs ∷ []) (omega arith))
    ∙ take_all 5 (drop 4 ds ++ (fs ∷ [])) fits
    ∙ ap (λ (xs : List Fields). xs ++ (fs ∷ [])) (sym (take_all 5 (drop 4 ds) room))

abbrev rows_of : List Fields → List (Option DraftRow)
rows_of xs =
    row_from (line_naming flaps.Cruise xs)
    ∷ row_from (line_naming flaps.InitialClimb xs)
    ∷ row_from (line_naming flaps.TakeOff xs)
    ∷ row_from (line_naming flaps.Approach xs)
    ∷ row_from (line_naming flaps.Landing xs)
    ∷ []

-- the row that the line fills, and any other
own_row : (xs : List Fields) (fs : Fields) (c : Configuration) → configuration_of fs ≡ Some c → is_some (line_naming c xs) ≡ false → row_from (line_naming c (xs ++ (fs ∷ []))) ≡ Some (row_of fs)
own_row xs fs c e new =
    let named : names c fs ≡ true = names_are fs c c e ∙ (bytes_eq-Decides (configuration_word c) (configuration_word c)).1 refl in
    ap row_from (naming_more c xs fs new ∙ cond-true (names c fs) (Some fs) None named)

other_row : (xs : List Fields) (fs : Fields) (c d : Configuration) → configuration_of fs ≡ Some c → bytes_eq (configuration_word c) (configuration_word d) ≡ false → row_from (line_naming d (xs ++ (fs ∷ []))) ≡ row_from (line_naming d xs)
other_row xs fs c d e f = ap row_from (naming_same d xs fs (names_are fs c d e ∙ f))

five : {a b c d e a' b' c' d' e' : Option DraftRow} → a ≡ a' → b ≡ b' → c ≡ c' → d ≡ d' → e ≡ e' → ◌≡◌ {A = List (Option DraftRow)} (a ∷ b ∷ c ∷ d ∷ e ∷ []) (a' ∷ b' ∷ c' ∷ d' ∷ e' ∷ [])
five p q r s t = λ i. p i ∷ q i ∷ r i ∷ s i ∷ t i ∷ []

rows_more : (xs : List Fields) (fs : Fields) (c : Configuration) → configuration_of fs ≡ Some c → is_some (line_naming c xs) ≡ false → rows_of (xs ++ (fs ∷ [])) ≡ set (rows_of xs) (configuration_row c) (Some (row_of fs))
rows_more xs fs flaps.Cruise e new =
    five (own_row xs fs flaps.Cruise e new) (other_row xs fs flaps.Cruise flaps.InitialClimb e refl) (other_row xs fs flaps.Cruise flaps.TakeOff e refl) (other_row xs fs flaps.Cruise flaps.Approach e refl) (other_row xs fs flaps.Cruise flaps.Landing e refl)
rows_more xs fs flaps.InitialClimb e new =
    five (other_row xs fs flaps.InitialClimb flaps.Cruise e refl) (own_row xs fs flaps.InitialClimb e new) (other_row xs fs flaps.InitialClimb flaps.TakeOff e refl) (other_row xs fs flaps.InitialClimb flaps.Approach e refl) (other_row xs fs flaps.InitialClimb flaps.Landing e refl)
rows_more xs fs flaps.TakeOff e new =
    five (other_row xs fs flaps.TakeOff flaps.Cruise e refl) (other_row xs fs flaps.TakeOff flaps.InitialClimb e refl) (own_row xs fs flaps.TakeOff e new) (other_row xs fs flaps.TakeOff flaps.Approach e refl) (other_row xs fs flaps.TakeOff flaps.Landing e refl)
rows_more xs fs flaps.Approach e new =
    five (other_row xs fs flaps.Approach flaps.Cruise e refl) (other_row xs fs flaps.Approach flaps.InitialClimb e refl) (other_row xs fs flaps.Approach flaps.TakeOff e refl) (own_row xs fs flaps.Approach e new) (other_row xs fs flaps.Approach flaps.Landing e refl)
rows_more xs fs flaps.Landing e new =
    five (other_row xs fs flaps.Landing flaps.Cruise e refl) (other_row xs fs flaps.Landing flaps.InitialClimb e refl) (other_row xs fs flaps.Landing flaps.TakeOff e refl) (other_row xs fs flaps.Landing flaps.Approach e refl) (own_row xs fs flaps.Landing e new)

-- What the line is judged by.

given_some : (o : Option Fields) → is_some (row_from o) ≡ is_some o
given_some None = refl
given_some (Some fs) = refl

filled_at : (data_lines : List Fields) (c : Configuration) → filled (draft_of data_lines) c ≡ came data_lines c
filled_at ds flaps.Cruise = given_some (line_naming flaps.Cruise (configuration_lines ds))
filled_at ds flaps.InitialClimb = given_some (line_naming flaps.InitialClimb (configuration_lines ds))
filled_at ds flaps.TakeOff = given_some (line_naming flaps.TakeOff (configuration_lines ds))
filled_at ds flaps.Approach = given_some (line_naming flaps.Approach (configuration_lines ds))
filled_at ds flaps.Landing = given_some (line_naming flaps.Landing (configuration_lines ds))

pub filled_is : (data_lines : List Fields) → filled (draft_of data_lines) ≡ came data_lines
filled_is ds = fun_ext (filled_at ds)

pub none_first : (f g : Option Fault) → or_else f g ≡ None → (f ≡ None) × (g ≡ None)
none_first None g e = (refl, e)
none_first (Some x) g e = absurd (let z : ◌≡◌ {A = ℕ} 0 1 = cc in omega arith)

-- a configuration line without a fault names a new configuration
pub new_named : (n : ℕ) (f : Configuration → Bool) (o : Option Configuration) → new_fault n f o ≡ None → (c : Configuration) × (o ≡ Some c) × (f c ≡ false)
new_named n f None e = absurd (let z : ◌≡◌ {A = ℕ} 0 1 = cc in omega arith)
new_named n f (Some c) e =
    ⊎_elim
    (λ t. absurd (let bad : Some (fault.Word n 2) ≡ None = rw t at e in let z : ◌≡◌ {A = ℕ} 0 1 = cc in omega arith))
    (λ g. (c, refl, g))
    (cases_Bool (f c))

-- The record one line further.

-- the faults of a line at a configuration's place
pub faults_inside : (k n : ℕ) (e : EngineType) (f : Configuration → Bool) (fs : Fields) → (leb 5 k && leb k 9) ≡ true → faults_at k n e f fs ≡ configuration_faults n f fs
faults_inside k n e f fs t =
    let p = and_parts (leb 5 k) (leb k 9) t in
    let low : 5 ≤ k = leb-true 5 k p.0 in
    rw (ne_eqb k 1 (λ z. omega arith), ne_eqb k 2 (λ z. omega arith), ne_eqb k 3 (λ z. omega arith), ne_eqb k 4 (λ z. omega arith), t)

rows_inside : (data_lines : List Fields) (fs : Fields) (k n : ℕ) (e : EngineType) → length data_lines + 1 ≡ k → first_of (faults_at k n e (came data_lines) fs) ≡ None → (leb 5 k && leb k 9) ≡ true → rows_of (configuration_lines (data_lines ++ (fs ∷ []))) ≡ cond (leb 5 k && leb k 9) (rows_with (rows_of (configuration_lines data_lines)) (configuration_of fs) (row_of fs)) (rows_of (configuration_lines data_lines))
rows_inside ds fs k n e h good t =
    let judged = ap first_of (sym (faults_inside k n e (came ds) fs t)) ∙ good in
    let word = (none_first _ _ (none_first _ _ judged).1).0 in
    let c = new_named n (came ds) (configuration_of fs) word in
    ap rows_of (lines_inside ds fs k h t)
    ∙ rows_more (configuration_lines ds) fs c.0 c.1 c.2
    ∙ ap (λ (o : Option Configuration). rows_with (rows_of (configuration_lines ds)) o (row_of fs)) (sym c.1)
    ∙ sym (cond-true (leb 5 k && leb k 9) _ _ t)

rows_taken : (data_lines : List Fields) (fs : Fields) (k n : ℕ) (e : EngineType) → length data_lines + 1 ≡ k → first_of (faults_at k n e (came data_lines) fs) ≡ None → rows_of (configuration_lines (data_lines ++ (fs ∷ []))) ≡ cond (leb 5 k && leb k 9) (rows_with (rows_of (configuration_lines data_lines)) (configuration_of fs) (row_of fs)) (rows_of (configuration_lines data_lines))
rows_taken ds fs k n e h good =
    ⊎_elim
    (λ t. rows_inside ds fs k n e h good t)
    (λ f. ap rows_of (lines_outside ds fs k h f) ∙ sym (cond-false (leb 5 k && leb k 9) _ _ f))
    (cases_Bool (leb 5 k && leb k 9))

pub draft_more : (data_lines : List Fields) (fs : Fields) (k n : ℕ) → length data_lines + 1 ≡ k → first_of (faults_at k n (engine_of (nth_line data_lines 1)) (came data_lines) fs) ≡ None → after_line k (draft_of data_lines) fs ≡ draft_of (data_lines ++ (fs ∷ []))
draft_more ds fs k n e good =
    sym
    (λ i.
    record {
      engine = at_line engine_of ds fs 1 k e (omega arith) i;
      masses = at_line masses_of ds fs 2 k e (omega arith) i;
      ceiling = at_line (λ x. natural x 3 quantity.ceiling) ds fs 3 k e (omega arith) i;
      wing = at_line (λ x. natural x 2 quantity.wing_area) ds fs 4 k e (omega arith) i;
      rows = rows_taken ds fs k n (engine_of (nth_line ds 1)) e good i;
      gear = at_line (λ x. natural x 3 quantity.drag) ds fs 13 k e (omega arith) i;
      thrust = thrust_more ds fs k e i;
      descent = at_line descent_of ds fs 17 k e (omega arith) i;
      consumption = at_line consumption_of ds fs 19 k e (omega arith) i;
      idle = at_line idle_of ds fs 20 k e (omega arith) i;
      cruise = at_line (λ x. natural x 1 quantity.cruise_factor) ds fs 21 k e (omega arith) i;
    })

-- a data line is judged by the record so far as by the earlier lines
pub judged_alike : (data_lines : List Fields) (fs : Fields) (k n : ℕ) (d : Draft) → length data_lines + 1 ≡ k → k ≤ 22 → d ≡ draft_of data_lines → data_fault n data_lines fs ≡ first_of (faults_at k n d.engine (filled d) fs)
judged_alike ds fs k n d e most same =
    ap (λ (b : Bool). or_else (cond b None (Some (fault.DataLines n))) (first_of (faults_at (length ds + 1) n (engine_of (nth_line ds 1)) (came ds) fs))) (le-leb (length ds + 1) 22 (omega arith))
    ∙ ap (λ (j : ℕ). first_of (faults_at j n (engine_of (nth_line ds 1)) (came ds) fs)) e
    ∙ ap (λ (f : Configuration → Bool). first_of (faults_at k n (engine_of (nth_line ds 1)) f fs)) (sym (filled_is ds))
    ∙ ap (λ (x : Draft). first_of (faults_at k n x.engine (filled x) fs)) (sym same)

-- the record after a data line without a fault
pub draft_after : (data_lines : List Fields) (fs : Fields) (k n : ℕ) (d : Draft) → length data_lines + 1 ≡ k → d ≡ draft_of data_lines → first_of (faults_at k n d.engine (filled d) fs) ≡ None → after_line k d fs ≡ draft_of (data_lines ++ (fs ∷ []))
draft_after ds fs k n d e same good =
    ap (λ (x : Draft). after_line k x fs) same
    ∙ draft_more ds fs k n e
    (ap (λ (f : Configuration → Bool). first_of (faults_at k n (engine_of (nth_line ds 1)) f fs)) (sym (filled_is ds))
    ∙ ap (λ (x : Draft). first_of (faults_at k n x.engine (filled x) fs)) (sym same)
    ∙ good)

-- the same for the fields as the code holds them
pub refused_line : (data_lines : List Fields) (fs fs' : Fields) (k n : ℕ) (d : Draft) (f : Fault) → length data_lines + 1 ≡ k → k ≤ 22 → d ≡ draft_of data_lines → fs' ≡ fs → first_of (faults_at k n d.engine (filled d) fs') ≡ Some f → data_fault n data_lines fs ≡ Some f
refused_line ds fs fs' k n d f e most same held bad =
    judged_alike ds fs k n d e most same ∙ ap (λ x. first_of (faults_at k n d.engine (filled d) x)) (sym held) ∙ bad

pub taken_line : (data_lines : List Fields) (fs fs' : Fields) (k n : ℕ) (d d' : Draft) → length data_lines + 1 ≡ k → k ≤ 22 → d ≡ draft_of data_lines → fs' ≡ fs → (first_of (faults_at k n d.engine (filled d) fs') ≡ None) × (d' ≡ after_line k d fs') → (data_fault n data_lines fs ≡ None) × (d' ≡ draft_of (data_lines ++ (fs ∷ [])))
taken_line ds fs fs' k n d d' e most same held good =
    let clear = ap (λ x. first_of (faults_at k n d.engine (filled d) x)) (sym held) ∙ good.0 in (
      judged_alike ds fs k n d e most same ∙ clear,
      good.1 ∙ ap (after_line k d) held ∙ draft_after ds fs k n d e same clear,
    )
