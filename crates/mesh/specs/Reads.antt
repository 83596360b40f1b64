-- A mesh and its sheets as the rules read them. Assumes nothing.
use Rattle.std.specs.Prelude.{ℕ, Ok, Err, Result}
use Rattle.amount.specs.Additions.{Addition}
use Rattle.grid.specs.Layouts.{patches_of}
use Rattle.model.specs.Fields.{fields_of}
use Rattle.model.specs.States.{State}
use Rattle.model.specs.Refusals.{Sheets}
use Rattle.model.specs.Calls.{Outcome, Opening}
use Rattle.mesh.specs.declared.mesh.Mesh.{Mesh}
use Rattle.sheets.specs.declared.refusal.Refusal.{Refusal}
use Rattle.sheets.specs.Numbers.{number_of}

-- the state of a mesh whose contents stand in the first of its sheets
abbrev pub state_of : {A : Type 0} → Addition A → Mesh A → Sheets A → State A
state_of G m sheets = record {
  size = m.layout.size;
  patches = patches_of m.layout;
  contents = fields_of m.layout.size G.zero sheets.contents;
  steps = m.steps;
  poured = m.poured;
  inward = m.inward;
}

-- an answer, or the number of the refusal
abbrev pub answered : {B : Type 0} → Result B Refusal → Result B ℕ
answered (Ok b) = Ok b
answered (Err e) = Err (number_of e)

-- what a call came to: its answer, with the mesh and the sheets that it left
abbrev pub outcome : {A B : Type 0} → Addition A → Result B Refusal → Mesh A → Sheets A → Outcome A B
outcome G r m sheets = record { answer = answered r; state = state_of G m sheets; sheets = sheets }

-- what an opening came to
abbrev pub opening : {A : Type 0} → Addition A → Result (Mesh A) Refusal → Sheets A → Opening A
opening G (Ok m) sheets = record { mesh = Ok (state_of G m sheets); sheets = sheets }
opening G (Err e) sheets = record { mesh = Err (number_of e); sheets = sheets }
