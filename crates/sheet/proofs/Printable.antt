-- Printable bytes are text.
use Rattle.std.proofs.Common.{◌≡◌, ℕ, zero, suc, ◌<◌, true, false, List, [], ◌∷◌, get_or, IsUtf8, Ok, Err, Result, MatchResult, MatchOption, Bor, arith}
use Rattle.std.specs.Result.{result_ok}
use Rattle.std.proofs.lemmas.Str.{IsUtf8-from_ascii}
use Rattle.std.proofs.lemmas.Bool.{and_parts}
use Rattle.std.proofs.lemmas.Bool.Decides.{nat_tests}
use Rattle.text.specs.Bytes.{every, printable}

printable_is_ascii : (s : List ℕ) → every printable s ≡ true → (i : ℕ) → get_or s i 0 < 128
printable_is_ascii [] e i = omega arith
printable_is_ascii (b ∷ s) e zero = let p : printable b ≡ true = (and_parts _ _ e).0 in grind (arith, nat_tests)
printable_is_ascii (b ∷ s) e (suc i) = printable_is_ascii s (and_parts _ _ e).1 i

pub text_shown : {E : Type 0} (Q : E → Type 0) (s : List ℕ) (r : Result (Bor (List ℕ)) E) → every printable s ≡ true → MatchResult r (λ t. (t.now ≡ s) × IsUtf8 s) (λ e. (IsUtf8 s → ⊥) × Q e) → MatchOption (result_ok r) (every printable s ≡ false) (λ t. (t.now ≡ s) × (every printable s ≡ true))
text_shown Q s (Ok t) p h = (h.0, p)
text_shown Q s (Err e) p h = absurd (h.0 (IsUtf8-from_ascii s (printable_is_ascii s p)))
