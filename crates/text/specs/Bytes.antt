-- The bytes of a line: which may be printed, and where it is cut.
use Rattle.std.specs.Prelude.{ℕ, Bool, true, cond, not, ◌&&◌, List, [], ◌∷◌, length, Some, None, Option, ◌==◌, nat_le, nat_lt}
use Rattle.std.specs.List.{position_or_len, before_first, after_first}
use denote.Ref.{Bor}

abbrev pub every : (ℕ → Bool) → List ℕ → Bool
every p [] = true
every p (b ∷ s) = p b && every p s

abbrev pub printable : ℕ → Bool
printable b = nat_le 32 b && nat_le b 126

abbrev pub is_byte : ℕ → ℕ → Bool
is_byte b x = x == b

abbrev pub other_than : ℕ → ℕ → Bool
other_than b x = not (x == b)

-- a CR at the end goes
abbrev pub without_cr : List ℕ → List ℕ
without_cr [] = []
without_cr (b ∷ []) = cond (b == 13) [] (b ∷ [])
without_cr (b ∷ c ∷ s) = b ∷ without_cr (c ∷ s)

-- what stands before the first b, and what stands after it
abbrev pub cut_at : ℕ → List ℕ → Option (List ℕ × List ℕ)
cut_at b s = cond (nat_lt (position_or_len (is_byte b) s) (length s)) (Some (before_first (is_byte b) s, after_first (is_byte b) s)) None

-- the bytes of both parts
abbrev pub parts_seen : Option (Bor (List ℕ) × Bor (List ℕ)) → Option (List ℕ × List ℕ)
parts_seen None = None
parts_seen (Some p) = Some (p.0.now, p.1.now)
