-- The sign of a number field.
use Rattle.std.proofs.Common.{◌≡◌, ℕ, false, List, [], ◌∷◌, length, get_or, arith}
use Rattle.std.proofs.lemmas.Bool.{ne_eqb}
use Rattle.opf.specs.Numbers.{unsigned_number, number_of}

-- what does not begin with a minus
pub no_minus : (s : List ℕ) → (get_or s 0 0 ≡ 45 → ⊥) → unsigned_number false s ≡ number_of s
unfolding number_of
no_minus s h = rw (ne_eqb (get_or s 0 0) 45 h)

pub empty_start : (s : List ℕ) → length s ≡ 0 → get_or s 0 0 ≡ 45 → ⊥
empty_start [] h e = omega arith
empty_start (b ∷ s) h e = omega arith
