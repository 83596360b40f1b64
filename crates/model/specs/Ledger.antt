-- The ledger of a history, and the balance of every history.
use Rattle.std.specs.Prelude.{◌≡◌, ℕ, ◌+◌, ◌<◌, true, false, cond, List, [], ◌∷◌, ◌++◌, is_ok, Ok, Err, ◌≢◌}
use Rattle.amount.specs.Additions.{Addition}
use Rattle.grid.specs.declared.size.Size.{Size}
use Rattle.grid.specs.Sizes.{in_range, level_width, level_height, sheet}
use Rattle.grid.specs.Boxes.{Apart}
use Rattle.grid.specs.Hierarchies.{live, leaf, mark}
use Rattle.model.specs.States.{State, hierarchy, opened, total}
use Rattle.model.specs.Refusals.{Sheets}
use Rattle.model.specs.Calls.{Outcome, open_call}
use Rattle.model.specs.Groups.{Amounts, Group}
use Rattle.model.specs.Nesting.{RingsLive, WellLaid}
use Rattle.model.specs.Interfaces.{Splits}
use Rattle.model.specs.Wanted.{Clusters, wanted}
use Rattle.model.specs.Evolution.{step_inward}
use Rattle.model.specs.History.{Call, to_pour, to_step, to_regrid, to_audit, Reply, reported, outcome, after}

-- the accepted steps, and the sums of what was poured and of what came inward over the boundary
pub record Ledger (A : Type 0) : Type 0 where
  pub steps : ℕ
  pub poured : A
  pub inward : A

module _ {A : Type 0} (G : Amounts A) where
  open G use {addition}
  open addition use {zero as nought, ◌⊕◌}

  infixl 60 ◌⊕◌
  -- An accepted pour adds its amount to poured, an accepted step one to steps and its inward amount to inward; other calls add nothing.
  unfoldable pub entered : State A → Call A → Ledger A → Ledger A
  entered s (to_pour w x y a) b = record { steps = b.steps; poured = b.poured ⊕ a; inward = b.inward }
  entered s (to_step w F split) b = record { steps = b.steps + 1; poured = b.poured; inward = b.inward ⊕ step_inward G s F split }
  entered s (to_regrid w l flag split cluster) b = b
  entered s (to_audit w) b = b

  -- a refused call adds nothing
  abbrev pub if_accepted : Outcome A (Reply A) → Ledger A → Ledger A → Ledger A
  if_accepted o new old = cond (is_ok o.answer) new old

  -- Whether a call is accepted, and a step's inward amount, follow from the rules and the mesh that the calls before left.
  unfoldable pub ledger_from : State A → Ledger A → List (Call A) → Ledger A
  ledger_from s b [] = b
  ledger_from s b (c ∷ cs) = ledger_from (outcome G s c).state (if_accepted (outcome G s c) (entered s c b) b) cs

  -- the ledger of the calls made on a newly opened mesh
  unfoldable pub ledger : Size → List (Call A) → Ledger A
  ledger size calls = ledger_from (opened addition size) (record { steps = 0; poured = nought; inward = nought }) calls

  -- what a call is told keeps its laws
  abbrev pub Lawful : Call A → Type 0
  Lawful (to_pour w x y a) = Unit {0}
  Lawful (to_step w F split) = Splits addition split
  Lawful (to_regrid w l flag split cluster) = Splits addition split × Clusters cluster
  Lawful (to_audit w) = Unit {0}

  -- each call of a list is lawful
  abbrev pub AllLawful : List (Call A) → Type 0
  AllLawful [] = Unit {0}
  AllLawful (c ∷ cs) = Lawful c × AllLawful cs

  -- cells that are not live hold zero
  abbrev pub DeadZero : State A → Type 0
  DeadZero s = (l x y : ℕ) → live (hierarchy s) l x y ≡ false → s.contents l x y ≡ nought

  -- An accepted audit answers the composite total, and the ledger's steps and sums.
  abbrev pub AuditRight : Call A → Outcome A (Reply A) → Ledger A → Type 0
  AuditRight (to_pour w x y a) o b = Unit {0}
  AuditRight (to_step w F split) o b = Unit {0}
  AuditRight (to_regrid w l flag split cluster) o b = Unit {0}
  AuditRight (to_audit w) o b =
      is_ok o.answer ≡ true
      → o.answer ≡ Ok (reported (record { steps = b.steps; total = total addition o.state; poured = b.poured; inward = b.inward }))

  -- After an accepted regrid the cells that it wanted are all covered, and a cell live and uncovered before and after holds what it held.
  abbrev pub RegridRight : State A → Call A → Outcome A (Reply A) → Type 0
  RegridRight before (to_pour w x y a) o = Unit {0}
  RegridRight before (to_step w F split) o = Unit {0}
  RegridRight before (to_audit w) o = Unit {0}
  RegridRight before (to_regrid w l flag split cluster) o =
      is_ok o.answer ≡ true
      → ((x y : ℕ) → x < level_width before.size l → y < level_height before.size l
      → wanted (hierarchy before) before.contents l flag x y ≡ true → (hierarchy o.state).covered l x y ≡ true)
      × ((k x y : ℕ) → leaf (hierarchy before) k x y ≡ true → leaf (hierarchy o.state) k x y ≡ true
      → o.state.contents k x y ≡ before.contents k x y)

  -- What holds after a call: before is the mesh that it found, o what it came to, b the ledger with it.
  pub record Balances (before : State A) (c : Call A) (o : Outcome A (Reply A)) (b : Ledger A) : Type 0 where
    pub whole : total addition o.state ≡ b.poured ⊕ b.inward
    pub audit_right : AuditRight c o b
    pub apart : (k : ℕ) → Apart (o.state.patches k)
    pub rings_live : RingsLive (hierarchy o.state)
    pub regrid_right : RegridRight before c o
    pub contents_right : o.sheets.contents ≡ sheet o.state.size o.state.contents
    pub marks_right : o.sheets.marks ≡ sheet o.state.size (mark (hierarchy o.state))

-- On a newly opened mesh of any size in range, after any lawful calls, the answer to a lawful call leaves all in balance.
abbrev pub HistoryBalances : Type 0 → Type 0
HistoryBalances A =
    (G : Amounts A) → Group G → (size : Size) → in_range size ≡ true → (earlier : List (Call A)) (call : Call A)
    → AllLawful G (earlier ++ (call ∷ []))
    → let before : State A = after G (opened G.addition size) earlier in
    Balances G before call (outcome G before call) (ledger G size (earlier ++ (call ∷ [])))

-- In every history the patches are well laid.
abbrev pub HistoryWellLaid : Type 0 → Type 0
HistoryWellLaid A =
    (G : Amounts A) → Group G → (size : Size) → in_range size ≡ true → (calls : List (Call A)) → AllLawful G calls
    → WellLaid size (after G (opened G.addition size) calls).patches

-- In every history a cell that is not live holds zero.
abbrev pub HistoryDeadZero : Type 0 → Type 0
HistoryDeadZero A =
    (G : Amounts A) → Group G → (size : Size) → in_range size ≡ true → (calls : List (Call A)) → AllLawful G calls
    → DeadZero G (after G (opened G.addition size) calls)

-- An accepted opening leaves the mesh that histories begin with, of a size in range, and its contents and marks.
abbrev pub OpeningRight : Type 0 → Type 0
OpeningRight A =
    (G : Addition A) (size : Size) (sheets : Sheets A) (s : State A) → (open_call G size sheets).mesh ≡ Ok s
    → (in_range size ≡ true) × (s ≡ opened G size) × ((open_call G size sheets).sheets.contents ≡ sheet size s.contents)
    × ((open_call G size sheets).sheets.marks ≡ sheet size (mark (hierarchy s)))

-- No call of a history finds marks that differ from what the patches say.
abbrev pub MarksNeverRefused : Type 0 → Type 0
MarksNeverRefused A = (G : Amounts A) (s : State A) (c : Call A) → (outcome G s c).answer ≢ Err 5
