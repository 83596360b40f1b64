-- Histories: calls on a newly opened mesh, each answered by its rule from what the one before left.
use Rattle.std.specs.Prelude.{ℕ, List, [], ◌∷◌, Ok, Err, Result}
use Rattle.grid.specs.Sizes.{sheet}
use Rattle.grid.specs.Hierarchies.{mark}
use Rattle.model.specs.States.{State, Report, hierarchy}
use Rattle.model.specs.Refusals.{Sheets}
use Rattle.model.specs.Calls.{Outcome, pour_call, audit_call}
use Rattle.model.specs.Groups.{Amounts}
use Rattle.model.specs.Interfaces.{Flux, Children}
use Rattle.model.specs.Wanted.{Flagging, Clustering}
use Rattle.model.specs.Evolution.{step_call, regrid_call}

-- the working sheets that a call is lent, of any length and content
pub record Working (A : Type 0) : Type 0 where
  pub before : List A
  pub corrections : List A
  pub wanted : List ℕ

-- a call with its working sheets and what it is told: pour X Y AMOUNT, step FLUX SPLIT, regrid LEVEL FLAGGING SPLIT CLUSTERING, audit
pub data Call (A : Type 0) : Type 0 where
  to_pour : Working A → (x y : ℕ) → A → Call A
  to_step : Working A → Flux A → (A → Children A) → Call A
  to_regrid : Working A → (level : ℕ) → Flagging A → (A → Children A) → Clustering → Call A
  to_audit : Working A → Call A

-- what an accepted call answers: a step its inward amount, an audit its report, the others that it was done
pub data Reply (A : Type 0) : Type 0 where
  done : Reply A
  came_inward : A → Reply A
  reported : Report A → Reply A

-- The sheets that a call is lent: its working sheets, with contents and marks as the calls before left them. Nothing else writes those.
abbrev pub lent : {A : Type 0} → State A → Working A → Sheets A
lent s w = record {
  contents = sheet s.size s.contents;
  before = w.before;
  corrections = w.corrections;
  marks = sheet s.size (mark (hierarchy s));
  wanted = w.wanted;
}

-- an answer as a reply, a refusal with its number
abbrev pub as_reply : {A B : Type 0} → (B → Reply A) → Result B ℕ → Result (Reply A) ℕ
as_reply reply (Ok b) = Ok (reply b)
as_reply reply (Err n) = Err n

-- an outcome with its answer as a reply
abbrev pub replying : {A B : Type 0} → (B → Reply A) → Outcome A B → Outcome A (Reply A)
replying reply o = record { answer = as_reply reply o.answer; state = o.state; sheets = o.sheets }

module _ {A : Type 0} (G : Amounts A) where
  -- what a call comes to in a history
  unfoldable pub outcome : State A → Call A → Outcome A (Reply A)
  outcome s (to_pour w x y a) = replying (λ _. done) (pour_call G.addition s (lent s w) x y a)
  outcome s (to_step w F split) = replying came_inward (step_call G s (lent s w) F split)
  outcome s (to_regrid w l flag split cluster) = replying (λ _. done) (regrid_call G s (lent s w) l flag split cluster)
  outcome s (to_audit w) = replying reported (audit_call G.addition s (lent s w))

  -- the mesh that calls leave, from the first to the last
  unfoldable pub after : State A → List (Call A) → State A
  after s [] = s
  after s (c ∷ cs) = after (outcome s c).state cs
