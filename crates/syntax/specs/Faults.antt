-- The number of each fault and who refused, and how a line is read field by field. Assumes nothing.
use Rattle.std.specs.Prelude.{ℕ, Bool, List, cond, Some, None, Ok, Err, codes, Option, Result}
use Rattle.sheets.specs.Numbers.{number_of as refusal_number}
use Rattle.syntax.specs.declared.fault.Fault.{Fault}
use Rattle.syntax.specs.declared.fault.Fault.TheVariants as fault
use Rattle.syntax.specs.declared.fault.Layer.{Layer}
use Rattle.syntax.specs.declared.fault.Layer.TheVariants as layer

-- The number of a fault. Only that of the mesh carries a value: the mesh's refusal, whose number it has.
abbrev pub number_of : Fault → ℕ
number_of fault.File = 10
number_of fault.Word = 11
number_of fault.Order = 12
number_of fault.Fields = 13
number_of fault.Number = 14
number_of (fault.Mesh e) = refusal_number e

abbrev pub layer_of : Fault → Layer
layer_of fault.File = layer.Reader
layer_of fault.Word = layer.Reader
layer_of fault.Order = layer.Reader
layer_of fault.Fields = layer.Reader
layer_of fault.Number = layer.Reader
layer_of (fault.Mesh e) = layer.Mesh

-- how a layer is written
abbrev pub letter_of : Layer → List ℕ
letter_of layer.Reader = codes "r"
letter_of layer.Mesh = codes "m"

-- what is there is taken, and the reading goes on with it; what is not there is this fault
abbrev pub taken : {X Y : Type 0} → Option X → Fault → (X → Result Y Fault) → Result Y Fault
taken None f on = Err f
taken (Some x) f on = on x

-- the reading goes on if the test passes, else it is this fault
abbrev pub needed : {Y : Type 0} → Bool → Fault → Result Y Fault → Result Y Fault
needed test f on = cond test on (Err f)

-- the reading goes on after a part whose value is not needed
abbrev pub after : {X Y : Type 0} → Result X Fault → Result Y Fault → Result Y Fault
after (Ok x) on = on
after (Err f) on = Err f
