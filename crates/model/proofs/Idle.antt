-- A level step on a level without live cells changes nothing and has no inward amount.
use Rattle.std.proofs.Common.{◌≡◌, ℕ, zero, suc, pred, ◌/◌, false, refl, ap, ◌∙◌, ap₂, ⊎_elim}
use Rattle.std.proofs.lemmas.Bool.{cases_eq, and_left}
use Rattle.grid.specs.Sizes.{level_width, level_height}
use Rattle.grid.specs.Hierarchies.{Hierarchy, live, leaf}
use Rattle.model.specs.Fields.{Field, Fields}
use Rattle.model.specs.Sums.{gate}
use Rattle.model.specs.Groups.{Amounts, Group}
use Rattle.model.specs.Nesting.{Nested}
use Rattle.model.specs.Interfaces.{Flux, Children}
use Rattle.model.specs.Step.{level_step, boundary_inward, inward}
use Rattle.model.specs.Balance.{IdleLevel}
use Rattle.model.proofs.Sheets.{fields_eq}
use Rattle.model.proofs.Sums.{gate_none, sum-nought}
use Rattle.model.proofs.Writes.{write_other}
use Rattle.model.proofs.Dead.{not_covered, level_dead}

module _ {A : Type 0} (G : Amounts A) (laws : Group G) (M : Hierarchy) (L : ℕ) (N : Nested M L) (F : Flux A) (split : A → Children A) (steps : ℕ) where
  open G use {addition}
  open addition use {zero as nought, ◌⊕◌}
  open laws use {sums}
  open sums use {neutral}

  infixl 60 ◌⊕◌
  -- no cell of level l is live
  abbrev Idle : ℕ → Type 0
  Idle l = (x y : ℕ) → live M l x y ≡ false

  idle_next : (l : ℕ) → Idle l → Idle (suc l)
  idle_next l h x y = not_covered G M L N l (x / 2) (y / 2) (h (x / 2) (y / 2))

  at : (l x y : ℕ) (a : A) → Idle l → gate addition (leaf M l x y) a ≡ nought
  at l x y a h = gate_none addition sums _ a (and_left (live M l x y) _ (h x y))

  boundary_none : (l : ℕ) (b : Field A) → Idle l → boundary_inward G M F split steps l b ≡ nought
  unfolding boundary_inward
  boundary_none l b h =
      ap₂ ◌⊕◌
      (sum-nought addition sums (level_height M.size l) _ (λ y _. ap₂ ◌⊕◌ (at l 0 y _ h) (at l (pred (level_width M.size l)) y _ h) ∙ neutral nought))
      (sum-nought addition sums (level_width M.size l) _ (λ x _. ap₂ ◌⊕◌ (at l x 0 _ h) (at l x (pred (level_height M.size l)) _ h) ∙ neutral nought))
      ∙ neutral nought

  inward_none : (d l : ℕ) (u : Fields A) → Idle l → inward G M F split steps d l u ≡ nought
  unfolding inward
  inward_none zero l u h = refl
  inward_none (suc d) l u h =
      ap₂ ◌⊕◌ (boundary_none l (u l) h)
      (ap₂ ◌⊕◌ (inward_none d (suc l) u (idle_next l h)) (inward_none d (suc l) _ (idle_next l h)) ∙ neutral nought)
      ∙ neutral nought

  step_none : (d l : ℕ) (cb : Field A) (u : Fields A) → Idle l → level_step G M F split steps d l cb u ≡ u
  unfolding level_step
  step_none zero l cb u h = refl
  step_none (suc d) l cb u h =
      fields_eq (level_step G M F split steps (suc d) l cb u) u (λ k x y. ⊎_elim
      (λ e. level_dead G M L N F split steps (suc d) l cb u k x y (ap (λ n. live M n x y) e ∙ h x y))
      (λ n.
      ap (λ f. f x y) (write_other l k _ _ n)
      ∙ (ap (λ v. v k x y) (step_none d (suc l) (u l) (level_step G M F split steps d (suc l) (u l) u) (idle_next l h))
      ∙ ap (λ v. v k x y) (step_none d (suc l) (u l) u (idle_next l h))))
      (cases_eq k l))

pub idle_level : (A : Type 0) → IdleLevel A
idle_level A G laws M L N F split steps d l h cb u =
    (step_none G laws M L N F split steps d l cb u h, inward_none G laws M L N F split steps d l u h)
