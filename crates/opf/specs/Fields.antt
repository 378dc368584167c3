-- The fields of a data line: the runs of bytes other than spaces, up to the first slash.
use Rattle.std.specs.Prelude.{ℕ, ◌-◌, Bool, false, cond, List, [], ◌∷◌, take, ◌==◌, slice_index_or}
use Rattle.std.specs.List.{prefix_len}
use Rattle.text.specs.Bytes.{other_than}
use Rattle.opf.specs.Text.{onto}

abbrev pub before_slash : List ℕ → List ℕ
before_slash s = take (prefix_len (other_than 47) s) s

-- whether a run of bytes goes on
abbrev pub in_run : List ℕ → Bool
in_run [] = false
in_run (b ∷ s) = other_than 32 b

abbrev pub runs : List ℕ → List (List ℕ)
runs [] = []
runs (b ∷ s) = cond (b == 32) (runs s) (cond (in_run s) (onto b (runs s)) ((b ∷ []) ∷ runs s))

abbrev pub fields : List ℕ → List (List ℕ)
fields rest = runs (before_slash rest)

-- field k of a data line, counted from 1; empty where there is none
abbrev pub field : List (List ℕ) → ℕ → List ℕ
field fs k = slice_index_or fs (k - 1) []
