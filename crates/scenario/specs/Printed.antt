-- What is printed, as bytes; 10 ends a line. Assumes nothing.
use Rattle.std.specs.Prelude.{◌≡◌, ℕ, List, [], ◌∷◌, ◌++◌, pos, Some, None, Ok, Err, codes, decimal, Option, Result, OnOk, String, string_bytes}
use Rattle.model.specs.States.{Report}
use Rattle.text.specs.Printed.{number_field}
use Rattle.syntax.specs.declared.fault.Layer.{Layer}
use Rattle.syntax.specs.Faults.{letter_of}
use Rattle.reader.specs.Forms.{Form}

-- unless memory runs out, this text is printed after what stood there before
abbrev pub Prints : {X E Z : Type 0} → Result X E → (old new : String Z) → List ℕ → Type 0
Prints r old new text = OnOk r (string_bytes new ≡ string_bytes old ++ text)

-- fault,LINE,LAYER,NUMBER
abbrev pub fault_line : ℕ → Layer → ℕ → List ℕ
fault_line at layer why = codes "fault," ++ (decimal at ++ (codes "," ++ (letter_of layer ++ (codes "," ++ (decimal why ++ 10 ∷ [])))))

module _ {A : Type 0} (K : Form A) where
  -- audit,STEPS,TOTAL,POURED,INWARD
  abbrev pub report_line : Report A → List ℕ
  report_line r =
      codes "audit" ++ (number_field (pos r.steps) ++ (K.show r.total ++ (K.show r.poured ++ (K.show r.inward ++ 10 ∷ []))))

  -- what is printed of the answer to line n: nothing, a report, or a fault
  abbrev pub printed : ℕ → Result (Option (Report A)) (Layer × ℕ) → List ℕ
  printed n (Ok None) = []
  printed n (Ok (Some r)) = report_line r
  printed n (Err f) = fault_line n f.0 f.1
