-- The words of a line and the numbers that they write.
use Rattle.std.specs.Prelude.{◌≡◌, ◌⊎◌, MatchOption, ℕ, ◌+◌, Bool, cond, ◌&&◌, List, [], length, take, drop, ℤ, pos, ◌-ℤ◌, Some, None, Option, ◌==◌, nat_le, nat_lt, slice_index}
use Rattle.std.specs.List.{prefix_len}
use denote.Ref.{Bor}
use Rattle.text.specs.Bytes.{other_than}
use Rattle.text.specs.Digits.{digits_of}

abbrev pub no_space : ℕ → Bool
no_space = other_than 32

-- the bytes before the first space, or all
abbrev pub first_word : List ℕ → List ℕ
first_word s = take (prefix_len no_space s) s

-- the bytes after the first space, or none
abbrev pub behind : List ℕ → List ℕ
behind s = drop (prefix_len no_space s + 1) s

-- whether there is a space
abbrev pub has_more : List ℕ → Bool
has_more s = nat_lt (prefix_len no_space s) (length s)

abbrev pub and_then : {A B : Type 0} → Option A → (A → Option B) → Option B
and_then None f = None
and_then (Some a) f = f a

-- one to ten digits; leading zeros count
abbrev pub number_of : List ℕ → Option ℕ
number_of s = cond (nat_le 1 (length s) && nat_le (length s) 10) (digits_of 0 s) None

-- the number before the first space, and what is behind it; none where it is no number or no space follows
abbrev pub NumberBefore : List ℕ → Option (ℕ × Bor (List ℕ)) → Type 0
NumberBefore s r = MatchOption r ((number_of (first_word s) ≡ None) ⊎ (behind s ≡ [])) (λ p. (number_of (first_word s) ≡ Some p.0) × (p.1.now ≡ behind s))

abbrev pub negative_of : List ℕ → Option ℤ
negative_of s = and_then (number_of s) (λ n. Some (pos 0 -ℤ pos n))

abbrev pub positive_of : List ℕ → Option ℤ
positive_of s = and_then (number_of s) (λ n. Some (pos n))

-- a minus may stand before the digits
abbrev pub deviation_of : List ℕ → Option ℤ
deviation_of s = cond (slice_index s 0 == 45) (negative_of (drop 1 s)) (positive_of s)
