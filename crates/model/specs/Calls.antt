-- The calls: what each answers, and what it leaves of the mesh and the five sheets. Assumes nothing.
use Rattle.std.specs.Prelude.{ℕ, cond, List, replicate, Some, None, Ok, Err, Option, Result, ◌==◌}
use Rattle.amount.specs.Additions.{Addition}
use Rattle.grid.specs.declared.size.Size.{Size}
use Rattle.grid.specs.Sizes.{sheet_length, sheet}
use Rattle.model.specs.States.{State, Report, opened, poured_into, report}
use Rattle.model.specs.Refusals.{Sheets, open_refusal, pour_refusal, audit_refusal}

-- what a call comes to: its answer, or the number of its refusal; the state of the mesh, and the five sheets
pub record Outcome (A B : Type 0) : Type 0 where
  pub answer : Result B ℕ
  pub state : State A
  pub sheets : Sheets A

-- A refused call changes nothing.
abbrev pub unless_refused : {A B : Type 0} → Option ℕ → State A → Sheets A → Outcome A B → Outcome A B
unless_refused None s sheets done = done
unless_refused (Some n) s sheets done = record { answer = Err n; state = s; sheets = sheets }

-- what an opening comes to: there is a mesh only if it is accepted
pub record Opening (A : Type 0) : Type 0 where
  pub mesh : Result (State A) ℕ
  pub sheets : Sheets A

abbrev pub unless_closed : {A : Type 0} → Option ℕ → Sheets A → Opening A → Opening A
unless_closed None sheets done = done
unless_closed (Some n) sheets done = record { mesh = Err n; sheets = sheets }

module _ {A : Type 0} (G : Addition A) where
  -- Contents and the working sheets are zero; marks are 1 on level 0 and 0 elsewhere.
  abbrev pub opened_sheets : Size → Sheets A
  opened_sheets size = record {
    contents = replicate (sheet_length size) G.zero;
    before = replicate (sheet_length size) G.zero;
    corrections = replicate (sheet_length size) G.zero;
    marks = sheet size (λ l x y. cond (l == 0) 1 0);
    wanted = replicate (sheet_length size) 0;
  }

  abbrev pub open_call : Size → Sheets A → Opening A
  open_call size sheets =
      unless_closed (open_refusal size sheets) sheets (record { mesh = Ok (opened G size); sheets = opened_sheets size })

  -- the sheets with other contents
  abbrev pub with_contents : List A → Sheets A → Sheets A
  with_contents contents sheets = record {
    contents = contents;
    before = sheets.before;
    corrections = sheets.corrections;
    marks = sheets.marks;
    wanted = sheets.wanted;
  }

  abbrev pub pour_call : State A → Sheets A → (x y : ℕ) → A → Outcome A (Unit {0})
  pour_call s sheets x y a =
      unless_refused (pour_refusal s sheets x y) s sheets (record {
        answer = Ok tt;
        state = poured_into G s x y a;
        sheets = with_contents (sheet s.size (poured_into G s x y a).contents) sheets;
      })

  -- An audit changes nothing, refused or not.
  abbrev pub audit_call : State A → Sheets A → Outcome A (Report A)
  audit_call s sheets = unless_refused (audit_refusal s sheets) s sheets (record { answer = Ok (report G s); state = s; sheets = sheets })
