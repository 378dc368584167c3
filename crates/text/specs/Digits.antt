-- The number that digits write.
use Rattle.std.specs.Prelude.{ℕ, ◌+◌, ◌-◌, ◌*◌, cond, Bool, ◌&&◌, List, [], ◌∷◌, length, Some, None, Option, nat_le}

abbrev pub digit : ℕ → Bool
digit b = nat_le 48 b && nat_le b 57

-- digits, read from the left after the number a
abbrev pub digits_of : ℕ → List ℕ → Option ℕ
digits_of a [] = Some a
digits_of a (b ∷ s) = cond (digit b) (digits_of (a * 10 + (b - 48)) s) None

-- at most 19 digits
abbrev pub number_written : List ℕ → Option ℕ
number_written s = cond (nat_le (length s) 19) (digits_of 0 s) None
