-- What is read of each data line, from its fields fs; n is the line's number in the text.
use Rattle.std.specs.Prelude.{ℕ, ◌+◌, ◌-◌, Bool, cond, not, ◌&&◌, List, [], ◌∷◌, length, take, drop, ℤ, pos, is_some, Some, None, Option, ◌==◌, nat_le, slice_index_or}
use Rattle.std.specs.Option.{unwrap_or}
use Rattle.std.specs.Str.{bytes_eq}
use Rattle.refusal.specs.declared.fault.Fault.{Fault}
use Rattle.refusal.specs.declared.fault.Fault.TheVariants as fault
use Rattle.aircraft.specs.declared.words.EngineType.{EngineType}
use Rattle.aircraft.specs.declared.words.EngineType.TheVariants as engine
use Rattle.aircraft.specs.declared.words.Configuration.{Configuration}
use Rattle.aircraft.specs.declared.draft.DraftMasses.{DraftMasses}
use Rattle.aircraft.specs.declared.draft.DraftRow.{DraftRow}
use Rattle.aircraft.specs.declared.draft.DraftThrust.{DraftThrust}
use Rattle.aircraft.specs.declared.draft.DraftDescent.{DraftDescent}
use Rattle.aircraft.specs.declared.draft.DraftConsumption.{DraftConsumption}
use Rattle.aircraft.specs.declared.draft.DraftIdle.{DraftIdle}
use Rattle.aircraft.specs.Words.{engine_named, configuration_named, configuration_word}
use Rattle.opf.specs.declared.number.Number.{Number}
use Rattle.opf.specs.declared.number.Quantity.{Quantity}
use Rattle.opf.specs.Faults.{unless, or_else, first_of}
use Rattle.opf.specs.Fields.{field}
use Rattle.opf.specs.Numbers.{number_of, natural_in, signed_in}
use Rattle.opf.specs.Quantities as quantity

abbrev pub Fields : Type 0
Fields = List (List ℕ)

-- One number: its form, then its value.

abbrev pub bound : {X Y : Type 0} → Option X → (X → Option Y) → Option Y
bound None f = None
bound (Some x) f = f x

-- the fault of field k, where `value` says what it gives
abbrev pub number_fault : {X : Type 0} → ℕ → ℕ → Option Number → (Number → Option X) → Option Fault
number_fault n k None value = Some (fault.NumberForm n k)
number_fault n k (Some x) value = unless (is_some (value x)) (fault.Value n k)

-- the fault of field k as a count of some kind
unfoldable pub counted_fault : {X : Type 0} → (Quantity X → Number → Option X) → ℕ → Fields → ℕ → Quantity X → Option Fault
counted_fault reads n fs k q = number_fault n k (number_of (field fs k)) (reads q)

-- the count that field k prints; d where it prints none
unfoldable pub counted : {X : Type 0} → (Quantity X → Number → Option X) → X → Fields → ℕ → Quantity X → X
counted reads d fs k q = unwrap_or (bound (number_of (field fs k)) (reads q)) d

abbrev pub natural_fault : ℕ → Fields → ℕ → Quantity ℕ → Option Fault
natural_fault = counted_fault natural_in

abbrev pub natural : Fields → ℕ → Quantity ℕ → ℕ
natural = counted natural_in 0

abbrev pub signed_fault : ℕ → Fields → ℕ → Quantity ℤ → Option Fault
signed_fault = counted_fault signed_in

abbrev pub integer : Fields → ℕ → Quantity ℤ → ℤ
integer = counted signed_in (pos 0)

-- at least k fields
abbrev pub count_fault : ℕ → Fields → ℕ → Option Fault
count_fault n fs k = unless (nat_le k (length fs)) (fault.FieldCount n)

-- Data line 1: field 4 is the engine's word.

abbrev pub engine_faults : ℕ → Fields → List (Option Fault)
engine_faults n fs = count_fault n fs 4 ∷ unless (is_some (engine_named (field fs 4))) (fault.Word n 4) ∷ []

abbrev pub engine_of : Fields → EngineType
engine_of fs = unwrap_or (engine_named (field fs 4)) engine.Jet

-- Data line 2: fields 1 to 3 are reference, minimum and maximum mass.

abbrev pub masses_of : Fields → DraftMasses
masses_of fs = record { reference = natural fs 1 quantity.mass; minimum = natural fs 2 quantity.mass; maximum = natural fs 3 quantity.mass }

abbrev pub in_order : DraftMasses → Bool
in_order m = nat_le m.minimum m.reference && nat_le m.reference m.maximum

abbrev pub masses_faults : ℕ → Fields → List (Option Fault)
masses_faults n fs =
    count_fault n fs 3
    ∷ natural_fault n fs 1 quantity.mass
    ∷ natural_fault n fs 2 quantity.mass
    ∷ natural_fault n fs 3 quantity.mass
    ∷ unless (in_order (masses_of fs)) (fault.MassOrder n)
    ∷ []

-- A data line of which one number is read, at field k.

abbrev pub one_faults : ℕ → Fields → ℕ → Quantity ℕ → List (Option Fault)
one_faults n fs k q = count_fault n fs k ∷ natural_fault n fs k q ∷ []

-- Data lines 5 to 9: field 2 is the configuration's word; of the last four fields the first three are stall speed, CD0 and CD2.

abbrev pub configuration_of : Fields → Option Configuration
configuration_of fs = configuration_named (field fs 2)

-- which data lines these are
abbrev pub configuration_lines : List Fields → List Fields
configuration_lines data_lines = take 5 (drop 4 data_lines)

abbrev pub names : Configuration → Fields → Bool
names c fs = bytes_eq (field fs 2) (configuration_word c)

-- the line that names c
abbrev pub line_naming : Configuration → List Fields → Option Fields
line_naming c [] = None
line_naming c (fs ∷ rest) = cond (names c fs) (Some fs) (line_naming c rest)

abbrev pub parasitic : Option Configuration → Quantity ℕ
parasitic None = quantity.drag
parasitic (Some c) = quantity.parasitic_drag c

abbrev pub row_of : Fields → DraftRow
row_of fs =
    record {
      stall = natural fs (length fs - 3) quantity.stall_speed;
      cd0 = natural fs (length fs - 2) (parasitic (configuration_of fs));
      cd2 = natural fs (length fs - 1) quantity.drag;
    }

abbrev pub row_from : Option Fields → Option DraftRow
row_from None = None
row_from (Some fs) = Some (row_of fs)

-- a known word, of a configuration that did not come before
abbrev pub new_fault : ℕ → (Configuration → Bool) → Option Configuration → Option Fault
new_fault n came None = Some (fault.Word n 2)
new_fault n came (Some c) = unless (not (came c)) (fault.Word n 2)

abbrev pub row_faults : ℕ → Fields → List (Option Fault)
row_faults n fs =
    natural_fault n fs (length fs - 3) quantity.stall_speed
    ∷ natural_fault n fs (length fs - 2) (parasitic (configuration_of fs))
    ∷ natural_fault n fs (length fs - 1) quantity.drag
    ∷ []

abbrev pub configuration_faults : ℕ → (Configuration → Bool) → Fields → List (Option Fault)
configuration_faults n came fs = count_fault n fs 6 ∷ new_fault n came (configuration_of fs) ∷ row_faults n fs

-- Data line 16: CTc1 to CTc5, the third by engine.

abbrev pub thrust_of : EngineType → Fields → DraftThrust
thrust_of e fs =
    record {
      ctc1 = natural fs 1 (quantity.ctc1 e);
      ctc2 = natural fs 2 quantity.ctc2;
      ctc3 = integer fs 3 (quantity.ctc3 e);
      ctc4 = integer fs 4 quantity.ctc4;
      ctc5 = natural fs 5 quantity.ctc5;
    }

abbrev pub thrust_faults : EngineType → ℕ → Fields → List (Option Fault)
thrust_faults e n fs =
    count_fault n fs 5
    ∷ natural_fault n fs 1 (quantity.ctc1 e)
    ∷ natural_fault n fs 2 quantity.ctc2
    ∷ signed_fault n fs 3 (quantity.ctc3 e)
    ∷ signed_fault n fs 4 quantity.ctc4
    ∷ natural_fault n fs 5 quantity.ctc5
    ∷ []

-- Data line 17: descent factors low and high, descent level, factors for approach and landing.

abbrev pub descent_of : Fields → DraftDescent
descent_of fs =
    record {
      low = natural fs 1 quantity.descent_factor;
      high = natural fs 2 quantity.descent_factor;
      level = natural fs 3 quantity.descent_level;
      approach = natural fs 4 quantity.descent_factor;
      landing = natural fs 5 quantity.descent_factor;
    }

abbrev pub descent_faults : ℕ → Fields → List (Option Fault)
descent_faults n fs =
    count_fault n fs 5
    ∷ natural_fault n fs 1 quantity.descent_factor
    ∷ natural_fault n fs 2 quantity.descent_factor
    ∷ natural_fault n fs 3 quantity.descent_level
    ∷ natural_fault n fs 4 quantity.descent_factor
    ∷ natural_fault n fs 5 quantity.descent_factor
    ∷ []

-- Data line 19: Cf1 and Cf2; data line 20: Cf3 and Cf4.

abbrev pub consumption_of : Fields → DraftConsumption
consumption_of fs = record { cf1 = natural fs 1 quantity.cf1; cf2 = natural fs 2 quantity.cf2 }

abbrev pub idle_of : Fields → DraftIdle
idle_of fs = record { cf3 = natural fs 1 quantity.cf3; cf4 = natural fs 2 quantity.cf4 }

abbrev pub two_faults : ℕ → Fields → Quantity ℕ → Quantity ℕ → List (Option Fault)
two_faults n fs q r = count_fault n fs 2 ∷ natural_fault n fs 1 q ∷ natural_fault n fs 2 r ∷ []

-- data line k of some, counted from 1; without fields where there is none
abbrev pub nth_line : List Fields → ℕ → Fields
nth_line data_lines k = slice_index_or data_lines (k - 1) []

-- the faults of the data line that comes k-th, by the engine and the configurations that came before
abbrev pub faults_at : ℕ → ℕ → EngineType → (Configuration → Bool) → Fields → List (Option Fault)
faults_at k n e came fs =
    cond (k == 1) (engine_faults n fs)
    (cond (k == 2) (masses_faults n fs)
    (cond (k == 3) (one_faults n fs 3 quantity.ceiling)
    (cond (k == 4) (one_faults n fs 2 quantity.wing_area)
    (cond (nat_le 5 k && nat_le k 9) (configuration_faults n came fs)
    (cond (k == 13) (one_faults n fs 3 quantity.drag)
    (cond (k == 16) (thrust_faults e n fs)
    (cond (k == 17) (descent_faults n fs)
    (cond (k == 19) (two_faults n fs quantity.cf1 quantity.cf2)
    (cond (k == 20) (two_faults n fs quantity.cf3 quantity.cf4)
    (cond (k == 21) (one_faults n fs 1 quantity.cruise_factor)
    []))))))))))

-- whether one of the earlier data lines names c
abbrev pub came : List Fields → Configuration → Bool
came earlier c = is_some (line_naming c (configuration_lines earlier))

-- the first fault of a data line after the earlier ones; there are at most 22
abbrev pub data_fault : ℕ → List Fields → Fields → Option Fault
data_fault n earlier fs =
    or_else (unless (nat_le (length earlier + 1) 22) (fault.DataLines n))
    (first_of (faults_at (length earlier + 1) n (engine_of (nth_line earlier 1)) (came earlier) fs))
