-- A whole file: its data lines, its first fault, and the plain record that it gives.
use Rattle.std.specs.Prelude.{ℕ, ◌+◌, Bool, true, false, cond, ◌&&◌, List, [], ◌∷◌, ◌++◌, length, Some, None, Option, Result, nat_le}
use Rattle.refusal.specs.declared.fault.Fault.{Fault}
use Rattle.refusal.specs.declared.fault.Fault.TheVariants as fault
use Rattle.aircraft.specs.declared.words.Configuration.TheVariants as flaps
use Rattle.aircraft.specs.declared.draft.Draft.{Draft}
use Rattle.opf.specs.Faults.{unless, or_else, judge}
use Rattle.text.specs.Bytes.{every, is_byte}
use Rattle.opf.specs.Text.{lines, text_fault, line_of, Line, comment, data_line, last}
use Rattle.opf.specs.Fields.{fields}
use Rattle.opf.specs.DataLines.{Fields, nth_line, natural, engine_of, masses_of, row_from, line_naming, configuration_lines, thrust_of, descent_of, consumption_of, idle_of, data_fault}
use Rattle.opf.specs.Quantities as quantity

-- by what a line is; an unknown line is the last case
abbrev pub by_line : {X : Type 0} → Option Line → X → (List ℕ → X) → X → X → X
by_line (Some (comment s)) c d e u = c
by_line (Some (data_line s)) c d e u = d s
by_line (Some (last s)) c d e u = e
by_line None c d e u = u

-- the fields of a data line; no other line has any
abbrev pub own_fields : List ℕ → List Fields
own_fields l = by_line (line_of l) [] (λ s. fields s ∷ []) [] []

abbrev pub is_end : List ℕ → Bool
is_end l = by_line (line_of l) false (λ s. false) true false

-- the fields of the data lines, in their order
abbrev pub data_lines : List (List ℕ) → List Fields
data_lines [] = []
data_lines (l ∷ ls) = own_fields l ++ data_lines ls

-- the fault of line n by itself, after the earlier data lines; the end comes after the 22nd
abbrev pub line_fault : ℕ → List Fields → List ℕ → Option Fault
line_fault n earlier l =
    or_else (text_fault n l)
    (by_line (line_of l)
    None
    (λ s. data_fault n earlier (fields s))
    (unless (nat_le 22 (length earlier)) (fault.DataLines n))
    (Some (fault.LineStart n)))

-- lines of CR alone
abbrev pub blank : List (List ℕ) → Bool
blank [] = true
blank (l ∷ ls) = every (is_byte 13) l && blank ls

-- the first fault of the lines from line n on, after the earlier data lines; nothing but line ends follows the end
abbrev pub lines_fault : ℕ → List Fields → List (List ℕ) → Option Fault
lines_fault n earlier [] = Some fault.NoEnd
lines_fault n earlier (l ∷ ls) =
    or_else (line_fault n earlier l)
    (cond (is_end l) (unless (blank ls) (fault.AfterEnd n)) (lines_fault (n + 1) (earlier ++ own_fields l) ls))

abbrev pub size_fault : List ℕ → Option Fault
size_fault text = unless (nat_le (length text) 32768) fault.FileSize

abbrev pub file_fault : List ℕ → Option Fault
file_fault text = or_else (size_fault text) (lines_fault 1 [] (lines text))

-- what the data lines give
abbrev pub draft_of : List Fields → Draft
draft_of d =
    record {
      engine = engine_of (nth_line d 1);
      masses = masses_of (nth_line d 2);
      ceiling = natural (nth_line d 3) 3 quantity.ceiling;
      wing = natural (nth_line d 4) 2 quantity.wing_area;
      rows =
          row_from (line_naming flaps.Cruise (configuration_lines d))
          ∷ row_from (line_naming flaps.InitialClimb (configuration_lines d))
          ∷ row_from (line_naming flaps.TakeOff (configuration_lines d))
          ∷ row_from (line_naming flaps.Approach (configuration_lines d))
          ∷ row_from (line_naming flaps.Landing (configuration_lines d))
          ∷ [];
      gear = natural (nth_line d 13) 3 quantity.drag;
      thrust = thrust_of (engine_of (nth_line d 1)) (nth_line d 16);
      descent = descent_of (nth_line d 17);
      consumption = consumption_of (nth_line d 19);
      idle = idle_of (nth_line d 20);
      cruise = natural (nth_line d 21) 1 quantity.cruise_factor;
    }

-- the first fault of a file, or what its data lines give
abbrev pub read_file : List ℕ → Result Draft Fault
read_file text = judge (file_fault text) (draft_of (data_lines (lines text)))
