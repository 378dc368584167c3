-- The lines of a text, what a line is, and the fault of a line as text.
use Rattle.std.specs.Prelude.{ℕ, Bool, false, cond, ◌&&◌, List, [], ◌∷◌, length, Some, None, Option, ◌==◌, nat_le}
use Rattle.refusal.specs.declared.fault.Fault.{Fault}
use Rattle.refusal.specs.declared.fault.Fault.TheVariants as fault
use Rattle.text.specs.Bytes.{every, printable}
use Rattle.opf.specs.Faults.{unless}

-- a byte in front of the first of some runs of bytes
abbrev pub onto : ℕ → List (List ℕ) → List (List ℕ)
onto b [] = (b ∷ []) ∷ []
onto b (l ∷ ls) = (b ∷ l) ∷ ls

abbrev pub at_lf : List ℕ → Bool
at_lf [] = false
at_lf (b ∷ s) = b == 10

-- LF ends a line, and a CR right before it belongs to that end
abbrev pub lines : List ℕ → List (List ℕ)
lines [] = []
lines (b ∷ s) = cond (b == 10) ([] ∷ lines s) (cond (b == 13 && at_lf s) (lines s) (onto b (lines s)))

-- at most 160 bytes, each of 32 to 126
abbrev pub text_fault : ℕ → List ℕ → Option Fault
text_fault n l = unless (nat_le (length l) 160 && every printable l) (fault.LineText n)

-- a comment, a data line or the end, with what follows its two letters
pub data Line : Type 0 where
  comment : List ℕ → Line
  data_line : List ℕ → Line
  last : List ℕ → Line

abbrev pub letters : ℕ → ℕ → List ℕ → Option Line
letters a b rest =
    cond (a == 67 && b == 67) (Some (comment rest))
    (cond (a == 67 && b == 68) (Some (data_line rest))
    (cond (a == 70 && b == 73) (Some (last rest)) None))

abbrev pub line_of : List ℕ → Option Line
line_of [] = None
line_of (a ∷ []) = None
line_of (a ∷ b ∷ rest) = letters a b rest
