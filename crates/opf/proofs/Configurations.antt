-- Every configuration has its line, within range.
use Rattle.std.proofs.Common.{◌≡◌, ℕ, zero, suc, ◌+◌, ◌-◌, ◌<◌, ◌≤◌, Bool, true, false, cond, ◌&&◌, leb, List, [], ◌∷◌, ◌++◌, length, get_or, take, drop, is_some, Some, None, Option, sym, refl, ap, ◌∙◌, subst, ⊎_elim, add-one, arith, length-drop, length-take}
use Rattle.std.proofs.lemmas.List.{take_more, take_all, drop-take, length-take-le, get_or-drop, get_or-take}
use Rattle.std.proofs.lemmas.Bool.{cases_Bool, cond-true, cond-false, and_from, le-leb}
use Rattle.std.proofs.lemmas.Slice.Eq.{bytes_eq-Decides}
use Rattle.std.specs.Str.{bytes_eq}
use Rattle.aircraft.specs.declared.words.Configuration.{Configuration}
use Rattle.aircraft.specs.declared.words.Configuration.TheVariants as flaps
use Rattle.aircraft.specs.Words.{configuration_word, configuration_named}
use Rattle.opf.specs.Faults.{first_of}
use Rattle.opf.specs.Fields.{field}
use Rattle.opf.specs.DataLines.{Fields, engine_of, nth_line, names, line_naming, configuration_of, configuration_lines, came, row_faults, parasitic}
use Rattle.opf.specs.Quantities as quantity
use Rattle.opf.proofs.Accepted.{NaturalRead, natural_clear}
use Rattle.opf.proofs.Drafts.{none_first, new_named, naming_more, naming_same, names_are, faults_inside}
use Rattle.opf.proofs.Judged.{Whole}

-- How many configurations some lines name.

bit : Bool → ℕ
bit true = 1
bit false = 0

abbrev named_bit : Configuration → List Fields → ℕ
named_bit c xs = bit (is_some (line_naming c xs))

bit_most : (b : Bool) → bit b ≤ 1
unfolding bit
bit_most true = omega arith
bit_most false = omega arith

bit_full : (b : Bool) → bit b ≡ 1 → b ≡ true
unfolding bit
bit_full true e = refl
bit_full false e = absurd (omega arith)

own_bit : (xs : List Fields) (fs : Fields) (c : Configuration) → configuration_of fs ≡ Some c → is_some (line_naming c xs) ≡ false → named_bit c (xs ++ (fs ∷ [])) ≡ named_bit c xs + 1
unfolding bit
own_bit xs fs c e new =
    let named : names c fs ≡ true = names_are fs c c e ∙ (bytes_eq-Decides (configuration_word c) (configuration_word c)).1 refl in
    ap (λ (o : Option Fields). bit (is_some o)) (naming_more c xs fs new ∙ ap (λ (b : Bool). cond b (Some fs) None) named)
    ∙ sym (ap (λ (b : Bool). bit b + 1) new)

other_bit : (xs : List Fields) (fs : Fields) (c d : Configuration) → configuration_of fs ≡ Some c → bytes_eq (configuration_word c) (configuration_word d) ≡ false → named_bit d (xs ++ (fs ∷ [])) ≡ named_bit d xs
other_bit xs fs c d e f = ap (λ (o : Option Fields). bit (is_some o)) (naming_same d xs fs (names_are fs c d e ∙ f))

abbrev tally : List Fields → ℕ
tally xs = named_bit flaps.Cruise xs + named_bit flaps.InitialClimb xs + named_bit flaps.TakeOff xs + named_bit flaps.Approach xs + named_bit flaps.Landing xs

tally_more : (xs : List Fields) (fs : Fields) (c : Configuration) → configuration_of fs ≡ Some c → is_some (line_naming c xs) ≡ false → tally (xs ++ (fs ∷ [])) ≡ tally xs + 1
tally_more xs fs flaps.Cruise e new = omega (arith, own_bit xs fs flaps.Cruise e new, other_bit xs fs flaps.Cruise flaps.InitialClimb e refl, other_bit xs fs flaps.Cruise flaps.TakeOff e refl, other_bit xs fs flaps.Cruise flaps.Approach e refl, other_bit xs fs flaps.Cruise flaps.Landing e refl)
tally_more xs fs flaps.InitialClimb e new = omega (arith, other_bit xs fs flaps.InitialClimb flaps.Cruise e refl, own_bit xs fs flaps.InitialClimb e new, other_bit xs fs flaps.InitialClimb flaps.TakeOff e refl, other_bit xs fs flaps.InitialClimb flaps.Approach e refl, other_bit xs fs flaps.InitialClimb flaps.Landing e refl)
tally_more xs fs flaps.TakeOff e new = omega (arith, other_bit xs fs flaps.TakeOff flaps.Cruise e refl, other_bit xs fs flaps.TakeOff flaps.InitialClimb e refl, own_bit xs fs flaps.TakeOff e new, other_bit xs fs flaps.TakeOff flaps.Approach e refl, other_bit xs fs flaps.TakeOff flaps.Landing e refl)
tally_more xs fs flaps.Approach e new = omega (arith, other_bit xs fs flaps.Approach flaps.Cruise e refl, other_bit xs fs flaps.Approach flaps.InitialClimb e refl, other_bit xs fs flaps.Approach flaps.TakeOff e refl, own_bit xs fs flaps.Approach e new, other_bit xs fs flaps.Approach flaps.Landing e refl)
tally_more xs fs flaps.Landing e new = omega (arith, other_bit xs fs flaps.Landing flaps.Cruise e refl, other_bit xs fs flaps.Landing flaps.InitialClimb e refl, other_bit xs fs flaps.Landing flaps.TakeOff e refl, other_bit xs fs flaps.Landing flaps.Approach e refl, own_bit xs fs flaps.Landing e new)

-- The five configuration lines.

module _ {d : List Fields} (w : Whole d) where
  rest : List Fields
  rest = drop 4 d

  rest_long : length rest ≡ 18
  unfolding rest
  rest_long = length-drop 4 d ∙ omega (arith, w.count)

  -- the lines before the i-th of them
  before : (i : ℕ) → i ≤ 5 → configuration_lines (take (4 + i) d) ≡ take i rest
  unfolding rest
  before i h =
      ap (take 5) (drop-take 4 i d)
      ∙ take_all 5 (take i (drop 4 d)) (omega (arith, length-take-le i (drop 4 d) (omega (arith, rest_long))))

  -- the i-th of them: it names a configuration that none before it names, and its numbers have no fault
  record LineGood (i : ℕ) : Type 0 where
    configuration : Configuration
    named : configuration_of (get_or rest i []) ≡ Some configuration
    new : is_some (line_naming configuration (take i rest)) ≡ false
    number : ℕ
    clear : first_of (row_faults number (get_or rest i [])) ≡ None

  line_good : (i : ℕ) → i < 5 → LineGood i
  unfolding rest
  line_good i h =
      let r = w.clear (4 + i) (omega (arith, w.count)) in
      let n = r.0 in
      let place : length (take (4 + i) d) + 1 ≡ 5 + i = omega (arith, length-take-le (4 + i) d (omega (arith, w.count))) in
      let k = length (take (4 + i) d) + 1 in
      let inside : (leb 5 k && leb k 9) ≡ true = and_from (leb 5 k) (leb k 9) (le-leb 5 k (omega arith)) (le-leb k 9 (omega arith)) in
      let judged = ap first_of (sym (faults_inside k n (engine_of (nth_line (take (4 + i) d) 1)) (came (take (4 + i) d)) (get_or d (4 + i) []) inside)) ∙ (none_first _ _ r.1).1 in
      let words = none_first _ _ (none_first _ _ judged).1 in
      let c = new_named n (came (take (4 + i) d)) (configuration_of (get_or d (4 + i) [])) words.0 in
      let here : get_or (drop 4 d) i [] ≡ get_or d (4 + i) [] = get_or-drop 4 d i [] in
      record {
        configuration = c.0;
        named = ap configuration_of here ∙ c.1;
        new = ap (λ (xs : List Fields). is_some (line_naming c.0 xs)) (sym (before i (omega arith))) ∙ c.2;
        number = n;
        clear = ap (λ (fs : Fields). first_of (row_faults n fs)) here ∙ words.1;
      }

  tallied : (i : ℕ) → i ≤ 5 → tally (take i rest) ≡ i
  unfolding bit
  tallied zero h = refl
  tallied (suc i) h =
      let g = line_good i (omega arith) in
      let more : take (suc i) rest ≡ take i rest ++ (get_or rest i [] ∷ []) = ap (λ (j : ℕ). take j rest) (sym (add-one i)) ∙ take_more rest i [] (omega (arith, rest_long)) in
      ap tally more ∙ tally_more (take i rest) (get_or rest i []) g.configuration g.named g.new ∙ omega (arith, tallied i (omega arith))

  all_named : (c : Configuration) → is_some (line_naming c (take 5 rest)) ≡ true
  all_named c =
      let five = tallied 5 (omega arith) in
      let a = bit_most (is_some (line_naming flaps.Cruise (take 5 rest))) in
      let b = bit_most (is_some (line_naming flaps.InitialClimb (take 5 rest))) in
      let e = bit_most (is_some (line_naming flaps.TakeOff (take 5 rest))) in
      let f = bit_most (is_some (line_naming flaps.Approach (take 5 rest))) in
      let g = bit_most (is_some (line_naming flaps.Landing (take 5 rest))) in
      bit_full (is_some (line_naming c (take 5 rest)))
      (elim c as (λ x. named_bit x (take 5 rest) ≡ 1) [ flaps.Cruise ↦ omega arith | flaps.InitialClimb ↦ omega arith | flaps.TakeOff ↦ omega arith | flaps.Approach ↦ omega arith | flaps.Landing ↦ omega arith ])

-- The line that names a configuration.

abbrev Good : Fields → Type 0
Good fs = (n : ℕ) × (first_of (row_faults n fs) ≡ None)

found : (c : Configuration) (xs : List Fields) → ((i : ℕ) → i < length xs → Good (get_or xs i [])) → is_some (line_naming c xs) ≡ true → (fs : Fields) × (line_naming c xs ≡ Some fs) × (names c fs ≡ true) × Good fs
found c [] all h = absurd (let z : ◌≡◌ {A = ℕ} 0 1 = cc in omega arith)
found c (x ∷ xs) all h =
    ⊎_elim
    (λ t. (x, cond-true (names c x) (Some x) (line_naming c xs) t, t, all 0 (omega arith)))
    (λ f.
    let r = found c xs (λ i l. all (suc i) (omega arith)) (rw f at h) in
    (r.0, cond-false (names c x) (Some x) (line_naming c xs) f ∙ r.1, r.2, r.3))
    (cases_Bool (names c x))

word_names : (c : Configuration) → configuration_named (configuration_word c) ≡ Some c
word_names flaps.Cruise = refl
word_names flaps.InitialClimb = refl
word_names flaps.TakeOff = refl
word_names flaps.Approach = refl
word_names flaps.Landing = refl

pub record RowRead (d : List Fields) (c : Configuration) : Type 0 where
  pub fs : Fields
  pub line : line_naming c (configuration_lines d) ≡ Some fs
  pub word : names c fs ≡ true
  pub stall : NaturalRead fs (length fs - 3) quantity.stall_speed
  pub cd0 : NaturalRead fs (length fs - 2) (quantity.parasitic_drag c)
  pub cd2 : NaturalRead fs (length fs - 1) quantity.drag
  pub own : configuration_of fs ≡ Some c

pub row_read : {d : List Fields} → Whole d → (c : Configuration) → RowRead d c
unfolding rest
row_read {d} w c =
    let r = found c (take 5 (rest w)) (λ i l. let g = line_good w i (omega (arith, length-take 5 (rest w))) in (g.number, ap (λ (x : Fields). first_of (row_faults g.number x)) (get_or-take 5 (rest w) i [] (omega (arith, length-take 5 (rest w)))) ∙ g.clear)) (all_named w c) in
    let fs = r.0 in
    let own : configuration_of fs ≡ Some c = ap configuration_named ((bytes_eq-Decides (field fs 2) (configuration_word c)).0 r.2) ∙ word_names c in
    let p = none_first _ _ r.3.1 in
    let q = none_first _ _ p.1 in
    let s = none_first _ _ q.1 in
    record {
      fs = fs;
      line = r.1;
      word = r.2;
      stall = natural_clear r.3.0 fs (length fs - 3) quantity.stall_speed p.0;
      cd0 = subst (λ (o : Option Configuration). NaturalRead fs (length fs - 2) (parasitic o)) own (natural_clear r.3.0 fs (length fs - 2) (parasitic (configuration_of fs)) q.0);
      cd2 = natural_clear r.3.0 fs (length fs - 1) quantity.drag s.0;
      own = own;
    }
