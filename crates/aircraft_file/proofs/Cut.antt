-- A file that is cut off behind the bytes that it may have gives what the whole file gives.
use Rattle.std.proofs.Common.{◌≡◌, ℕ, ◌<◌, List, [], ◌++◌, length, take, Option, Some, None, Result, Ok, Err, IfOk, IfSome, nat_le, false, sym, ◌∙◌, ap, subst, inl, inr, arith}
use Rattle.std.specs.Option.{option_map}
use Rattle.std.proofs.lemmas.List.{take_all, length-take-le}
use Rattle.std.proofs.lemmas.Bool.Decides.{leb_tells, nat_tests}
use Rattle.refusal.specs.declared.fault.Fault.{Fault}
use Rattle.refusal.specs.declared.fault.Fault.TheVariants as fault
use Rattle.aircraft.specs.declared.record.Aircraft.{Aircraft}
use Rattle.opf.specs.Files.{read_file}
use Rattle.opf.specs.Records.{read_values}
use Rattle.aircraft_file.specs.Texts.{Gives}

too_long : (text : List ℕ) → 32768 < length text → read_file text ≡ Err fault.FileSize
too_long text h = let e : nat_le (length text) 32768 ≡ false = grind (arith, nat_tests) in rw e

refused : (r : Result Aircraft Fault) (P : Aircraft → Type 0) → read_values r ≡ Err fault.FileSize → IfOk r P
refused (Ok a) P h = absurd (cc)
refused (Err f) P h = tt

gives_cut : (n : ℕ) (text : List ℕ) (r : Result Aircraft Fault) → 32768 < n → Gives (take n text) r → Gives text r
gives_cut n text r h p =
    elim (leb_tells (length text) n) [
      | inl w ↦ subst (λ t. Gives t r) (take_all n text w.1) p
      | inr w ↦
          let l : length (take n text) ≡ n = length-take-le n text (omega arith) in
          let e : read_values r ≡ Err fault.FileSize = p.values ∙ too_long (take n text) (omega arith) in
          record { values = e ∙ sym (too_long text (omega arith)); printed = refused r _ e }
    ]

-- bytes that were appended to none, from a reader cut off after n bytes
pub gives_known : (n : ℕ) (known : Option (List ℕ)) (none filled bytes : List ℕ) (r : Result Aircraft Fault) → 32768 < n → none ≡ [] → IfSome (option_map (take n) known) (λ xs. filled ≡ none ++ xs) → bytes ≡ filled → Gives bytes r → IfSome known (λ text. Gives text r)
gives_known n None none filled bytes r h e f b p = tt
gives_known n (Some text) none filled bytes r h e f b p =
    gives_cut n text r h (subst (λ t. Gives t r) (b ∙ f ∙ ap (λ t. t ++ take n text) e) p)
