-- A command on the mesh, and its answer: nothing, a report, or a fault with its layer and number. Assumes nothing.
use Rattle.std.specs.Prelude.{ℕ, Some, None, Ok, Err, Option, Result}
use Rattle.std.specs.Option.{option_map}
use Rattle.amount.specs.Additions.{Addition}
use Rattle.model.specs.States.{State, Report}
use Rattle.model.specs.Refusals.{Sheets}
use Rattle.model.specs.Calls.{Outcome, pour_call, audit_call}
use Rattle.mesh.specs.declared.audit.Audit.{Audit}
use Rattle.mesh.specs.Reports.{report_of}
use Rattle.reader.specs.declared.command.Command.{Command}
use Rattle.reader.specs.declared.command.Command.TheVariants.{Header, Pour, Audit as ToAudit}
use Rattle.syntax.specs.declared.fault.Fault.{Fault}
use Rattle.syntax.specs.declared.fault.Layer.{Layer}
use Rattle.syntax.specs.declared.fault.Layer.TheVariants.{Mesh}
use Rattle.syntax.specs.Faults.{number_of, layer_of}

abbrev pub Answer : Type 0 → Type 0
Answer A = Result (Option (Report A)) (Layer × ℕ)

-- the answer that the code gives
abbrev pub told : {A : Type 0} → Result (Option (Audit A)) Fault → Answer A
told (Ok a) = Ok (option_map report_of a)
told (Err f) = Err (layer_of f, number_of f)

-- a pour answers nothing, and an audit its report; what they refuse is the mesh's
abbrev pub from_pour : {A : Type 0} → Result (Unit {0}) ℕ → Answer A
from_pour (Ok u) = Ok None
from_pour (Err why) = Err (Mesh, why)

abbrev pub from_audit : {A : Type 0} → Result (Report A) ℕ → Answer A
from_audit (Ok r) = Ok (Some r)
from_audit (Err why) = Err (Mesh, why)

-- what a command comes to: its answer, and the mesh and the sheets after it
pub record Executed (A : Type 0) : Type 0 where
  pub answer : Answer A
  pub state : State A
  pub sheets : Sheets A

abbrev pub executed : {A : Type 0} → Addition A → State A → Sheets A → Command A → Executed A
executed G s sheets Header = record { answer = Ok None; state = s; sheets = sheets }
executed {A} G s sheets (Pour x y a) =
    let o : Outcome A (Unit {0}) = pour_call G s sheets x y a in
    record { answer = from_pour o.answer; state = o.state; sheets = o.sheets }
executed {A} G s sheets ToAudit =
    let o : Outcome A (Report A) = audit_call G s sheets in
    record { answer = from_audit o.answer; state = o.state; sheets = o.sheets }
