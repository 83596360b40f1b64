-- An audit as the rules read it. Assumes nothing.
use Rattle.std.specs.Prelude.{Ok, Err, Result}
use Rattle.model.specs.States.{Report}
use Rattle.mesh.specs.declared.audit.Audit.{Audit}
use Rattle.sheets.specs.declared.refusal.Refusal.{Refusal}

abbrev pub report_of : {A : Type 0} → Audit A → Report A
report_of a = record { steps = a.steps; total = a.total; poured = a.poured; inward = a.inward }

abbrev pub reported : {A : Type 0} → Result (Audit A) Refusal → Result (Report A) Refusal
reported (Ok a) = Ok (report_of a)
reported (Err e) = Err e
