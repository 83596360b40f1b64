-- What the program prints for a scenario. Assumes nothing.
use Rattle.std.specs.Prelude.{ℕ, ◌+◌, Bool, true, cond, not, ◌||◌, List, [], ◌∷◌, ◌++◌, length, replicate, Some, None, Ok, Err, Option, Result, ◌==◌, nat_lt}
use Rattle.amount.specs.Additions.{Addition}
use Rattle.amount.specs.Volumes.{volumes}
use Rattle.amount.specs.Waters.{waters}
use Rattle.grid.specs.declared.size.Size.{Size}
use Rattle.grid.specs.Sizes.{in_range, sheet_length}
use Rattle.model.specs.States.{State}
use Rattle.model.specs.Refusals.{Sheets}
use Rattle.model.specs.Calls.{Opening, open_call}
use Rattle.text.specs.Text.{pieces}
use Rattle.reader.specs.declared.command.Command.{Command}
use Rattle.syntax.specs.declared.fault.Fault.{Fault}
use Rattle.syntax.specs.declared.fault.Layer.TheVariants as layer
use Rattle.reader.specs.declared.header.KindName.{KindName}
use Rattle.reader.specs.declared.header.KindName.TheVariants as kind
use Rattle.syntax.specs.declared.word.Phase.{Phase}
use Rattle.syntax.specs.declared.word.Phase.TheVariants as phase
use Rattle.syntax.specs.Faults.{number_of, layer_of}
use Rattle.reader.specs.Forms.{Form, volume_form, water_form}
use Rattle.reader.specs.Lines.{mesh_line, reading}
use Rattle.scenario.specs.Printed.{fault_line, printed}
use Rattle.scenario.specs.Answers.{Executed, executed}

-- The lines of a text, each ended by byte 10: its pieces but the last, which is not ended.
abbrev pub but_last : {X : Type 0} → List X → List X
but_last [] = []
but_last (p ∷ []) = []
but_last (p ∷ q ∷ qs) = p ∷ but_last (q ∷ qs)

abbrev pub lines : List ℕ → List (List ℕ)
lines text = but_last (pieces 10 text)

-- no byte stands after the last end of line
abbrev pub ended : List ℕ → Bool
ended [] = true
ended (b ∷ []) = b == 10
ended (b ∷ c ∷ bs) = ended (c ∷ bs)

-- what a line comes to: the line that is due next, unless the run ends; what it prints; the mesh and the sheets after it
pub record LineRun (A : Type 0) : Type 0 where
  pub due : Option Phase
  pub prints : List ℕ
  pub state : State A
  pub sheets : Sheets A

module _ {A : Type 0} (G : Addition A) (K : Form A) where
  -- a command on line n, after which the line q is due
  abbrev pub obeyed : ℕ → Phase → State A → Sheets A → Command A → LineRun A
  obeyed n q s sheets c =
      let e : Executed A = executed G s sheets c in
      record { due = Some q; prints = printed K n e.answer; state = e.state; sheets = e.sheets }

  -- A fault of the reader ends the run; one of the mesh ends only its line.
  abbrev pub unless_fault : ℕ → State A → Sheets A → Result (Phase × Command A) Fault → LineRun A
  unless_fault n s sheets (Ok r) = obeyed n r.0 s sheets r.1
  unless_fault n s sheets (Err f) = record { due = None; prints = fault_line n (layer_of f) (number_of f); state = s; sheets = sheets }

  abbrev pub line_run : ℕ → Phase → State A → Sheets A → List ℕ → LineRun A
  line_run n p s sheets line = unless_fault n s sheets (reading K p line)

  -- the lines after the first, from line n on
  abbrev pub if_due : Option Phase → (Phase → List ℕ) → List ℕ
  if_due None on = []
  if_due (Some p) on = on p

  abbrev pub run_lines : ℕ → Phase → State A → Sheets A → List (List ℕ) → List ℕ
  run_lines n p s sheets [] = []
  run_lines n p s sheets (line ∷ rest) =
      let r : LineRun A = line_run n p s sheets line in
      r.prints ++ if_due r.due (λ q. run_lines (n + 1) q r.state r.sheets rest)

  -- sheets of zeros, as long as the sheets of this size where it is in range
  abbrev pub new_sheets : Size → Sheets A
  new_sheets size =
      let n : ℕ = cond (in_range size) (sheet_length size) 0 in
      record { contents = replicate n G.zero; before = replicate n G.zero; corrections = replicate n G.zero; marks = replicate n 0; wanted = replicate n 0 }

  -- The mesh opens on its own line, the first. A refused opening ends the run.
  abbrev pub if_open : Result (State A) ℕ → Sheets A → List (List ℕ) → List ℕ
  if_open (Ok s) sheets rest = run_lines 2 phase.Rule s sheets rest
  if_open (Err why) sheets rest = fault_line 1 layer.Mesh why

  abbrev pub after_opening : Opening A → List (List ℕ) → List ℕ
  after_opening o rest = if_open o.mesh o.sheets rest

  abbrev pub run_kind : Size → List (List ℕ) → List ℕ
  run_kind size rest = after_opening (open_call G size (new_sheets size)) rest

abbrev pub run_named : KindName → Size → List (List ℕ) → List ℕ
run_named kind.Volume size rest = run_kind volumes volume_form size rest
run_named kind.Water size rest = run_kind waters water_form size rest

abbrev pub from_mesh_line : Result (KindName × Size) Fault → List (List ℕ) → List ℕ
from_mesh_line (Ok k) rest = run_named k.0 k.1 rest
from_mesh_line (Err f) rest = fault_line 1 (layer_of f) (number_of f)

abbrev pub run_file : List (List ℕ) → List ℕ
run_file [] = []
run_file (line ∷ rest) = from_mesh_line (mesh_line line) rest

-- A file over 12,288 bytes, or with an unended last line, is refused whole, as line 0. A file may end in its header, or be empty.
abbrev pub output : List ℕ → List ℕ
output file = cond (nat_lt 12288 (length file) || not (ended file)) (fault_line 0 layer.Reader 10) (run_file (lines file))
