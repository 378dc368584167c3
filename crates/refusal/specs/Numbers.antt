-- The number, line, field and layer of each fault of a file, the word of each layer, and the number of each refusal.
use Rattle.std.specs.Prelude.{ℕ, List, ◌∷◌, ◌++◌, Some, None, Option, unwrap_or, codes, decimal}
use Rattle.refusal.specs.declared.fault.Fault.{Fault}
use Rattle.refusal.specs.declared.fault.Fault.TheVariants as fault
use Rattle.refusal.specs.declared.fault.Layer.{Layer}
use Rattle.refusal.specs.declared.fault.Layer.TheVariants as layer
use Rattle.refusal.specs.declared.refusal.Refusal.{Refusal}
use Rattle.refusal.specs.declared.refusal.Refusal.TheVariants as refusal

abbrev pub fault_number : Fault → ℕ
fault_number fault.FileSize = 1
fault_number (fault.LineText n) = 2
fault_number (fault.LineStart n) = 3
fault_number (fault.DataLines n) = 4
fault_number (fault.FieldCount n) = 5
fault_number (fault.Word n f) = 6
fault_number (fault.NumberForm n f) = 7
fault_number (fault.Value n f) = 8
fault_number fault.NoEnd = 9
fault_number (fault.AfterEnd n) = 9
fault_number (fault.MassOrder n) = 10

-- the line that it names
abbrev pub named_line : Fault → Option ℕ
named_line fault.FileSize = None
named_line (fault.LineText n) = Some n
named_line (fault.LineStart n) = Some n
named_line (fault.DataLines n) = Some n
named_line (fault.FieldCount n) = Some n
named_line (fault.Word n f) = Some n
named_line (fault.NumberForm n f) = Some n
named_line (fault.Value n f) = Some n
named_line fault.NoEnd = None
named_line (fault.AfterEnd n) = Some n
named_line (fault.MassOrder n) = Some n

-- the field that it names
abbrev pub named_field : Fault → Option ℕ
named_field fault.FileSize = None
named_field (fault.LineText n) = None
named_field (fault.LineStart n) = None
named_field (fault.DataLines n) = None
named_field (fault.FieldCount n) = None
named_field (fault.Word n f) = Some f
named_field (fault.NumberForm n f) = Some f
named_field (fault.Value n f) = Some f
named_field fault.NoEnd = None
named_field (fault.AfterEnd n) = None
named_field (fault.MassOrder n) = None

-- 0 where it names no line
abbrev pub fault_line : Fault → ℕ
fault_line f = unwrap_or (named_line f) 0

-- 0 where it names no field
abbrev pub fault_field : Fault → ℕ
fault_field f = unwrap_or (named_field f) 0

-- number, line and field, as printed
abbrev pub fault_figures : Fault → List ℕ
fault_figures f = decimal (fault_number f) ++ (32 ∷ (decimal (fault_line f) ++ (32 ∷ decimal (fault_field f))))

abbrev pub fault_layer : Fault → Layer
fault_layer fault.FileSize = layer.Text
fault_layer (fault.LineText n) = layer.Text
fault_layer (fault.LineStart n) = layer.Text
fault_layer (fault.DataLines n) = layer.Layout
fault_layer (fault.FieldCount n) = layer.Layout
fault_layer (fault.Word n f) = layer.Layout
fault_layer (fault.NumberForm n f) = layer.Number
fault_layer (fault.Value n f) = layer.Value
fault_layer fault.NoEnd = layer.Text
fault_layer (fault.AfterEnd n) = layer.Text
fault_layer (fault.MassOrder n) = layer.Value

abbrev pub layer_word : Layer → List ℕ
layer_word layer.Text = codes "text"
layer_word layer.Layout = codes "layout"
layer_word layer.Number = codes "number"
layer_word layer.Value = codes "value"

abbrev pub refusal_number : Refusal → ℕ
refusal_number refusal.BenchPair = 11
refusal_number refusal.TooHigh = 12
refusal_number refusal.Grams = 13
refusal_number refusal.ZeroFuel = 14
refusal_number refusal.Phase = 15
refusal_number refusal.State = 16
refusal_number refusal.Altitude = 17
refusal_number refusal.Speed = 18
refusal_number refusal.Calibrated = 19
refusal_number refusal.Seconds = 20
refusal_number refusal.FlownSeconds = 21
refusal_number refusal.Lift = 22
refusal_number refusal.Flow = 23
refusal_number refusal.Overweight = 24
refusal_number refusal.FuelShort = 25
refusal_number refusal.Script = 26
