-- The first of several faults, and a result that it decides.
use Rattle.std.specs.Prelude.{◌≡◌, Bool, cond, List, [], ◌∷◌, Some, None, Ok, Err, Option, Result}
use Rattle.refusal.specs.declared.fault.Fault.{Fault}

-- a fault unless the test holds
abbrev pub unless : Bool → Fault → Option Fault
unless b f = cond b None (Some f)

abbrev pub or_else : Option Fault → Option Fault → Option Fault
or_else None g = g
or_else (Some f) g = Some f

abbrev pub first_of : List (Option Fault) → Option Fault
first_of [] = None
first_of (f ∷ fs) = or_else f (first_of fs)

-- the value where there is no fault
abbrev pub judge : {X : Type 0} → Option Fault → X → Result X Fault
judge None x = Ok x
judge (Some f) x = Err f

-- the same, read from the result
abbrev pub Judges : {X : Type 0} → Result X Fault → Option Fault → X → Type 0
Judges (Ok x) o v = (o ≡ None) × (x ≡ v)
Judges (Err f) o v = o ≡ Some f
