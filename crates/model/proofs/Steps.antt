-- The whole step, level by level.
use Rattle.std.proofs.Common.{◌≡◌, ℕ, zero, suc, ◌+◌, false, sym, refl, ap, ◌∙◌, ap₂, add-zero, le_of_lt, add-suc, lt-suc_self, suc-add}
use Rattle.grid.specs.Hierarchies.{Hierarchy, live}
use Rattle.model.specs.Fields.{Field, Fields}
use Rattle.model.specs.Total.{level_total, composite_total}
use Rattle.model.specs.Groups.{Amounts, Group}
use Rattle.model.specs.Nesting.{Nested}
use Rattle.model.specs.Interfaces.{Flux, Children}
use Rattle.model.specs.Step.{Faces, fluxes, level_step, inward, step}
use Rattle.model.specs.Balance.{StepConserves}
use Rattle.model.proofs.Sums.{left_neutral, left_comm}
use Rattle.model.proofs.Writes.{write_same, total_above}
use Rattle.model.proofs.Halves.{edge_flat}
use Rattle.model.proofs.Grids.{base_live, bottom}
use Rattle.model.proofs.Levels.{edges, level_balance}

module _ {A : Type 0} (G : Amounts A) (laws : Group G) where
  open G use {addition, negation as neg}
  open addition use {zero as nought, ◌⊕◌}
  open laws use {sums, inverse as opposite}
  open sums use {assoc, comm, neutral as right_neutral}

  infixl 60 ◌⊕◌
  regroup : (V T₀ i₁ e₁ i₂ e₂ : A) → V ⊕ (T₀ ⊕ i₁ ⊕ e₁ ⊕ i₂ ⊕ e₂) ≡ V ⊕ (e₁ ⊕ e₂) ⊕ (T₀ ⊕ (i₁ ⊕ i₂))
  regroup V T₀ i₁ e₁ i₂ e₂ = simp (assoc, comm, left_comm addition sums)

  settle : (B r e T₀ i : A) → B ⊕ r ⊕ e ⊕ (T₀ ⊕ i) ≡ B ⊕ T₀ ⊕ (r ⊕ i) ⊕ e
  settle B r e T₀ i = simp (assoc, comm, left_comm addition sums)

  combine : (V T₀ T₁ T₂ i₁ e₁ i₂ e₂ B r e : A)
      → T₁ ≡ T₀ ⊕ i₁ ⊕ e₁ → T₂ ≡ T₁ ⊕ i₂ ⊕ e₂ → V ⊕ (e₁ ⊕ e₂) ≡ B ⊕ r ⊕ e
      → V ⊕ T₂ ≡ B ⊕ T₀ ⊕ (r ⊕ (i₁ ⊕ i₂)) ⊕ e
  combine V T₀ T₁ T₂ i₁ e₁ i₂ e₂ B r e p q v =
      ap (λ z. V ⊕ z) (q ∙ ap (λ z. z ⊕ i₂ ⊕ e₂) p) ∙ regroup V T₀ i₁ e₁ i₂ e₂
      ∙ ap (λ z. z ⊕ (T₀ ⊕ (i₁ ⊕ i₂))) v ∙ settle B r e T₀ (i₁ ⊕ i₂)

  edges_none : (M : Hierarchy) (l : ℕ) (f : Faces A) → ((x y : ℕ) → live M l x y ≡ false) → edges G M l f ≡ nought
  unfolding edges
  edges_none M l f h =
      ap₂ ◌⊕◌ (edge_flat G laws _ _ _ _ (λ i y _ _. h (suc i) y ∙ sym (h i y))) (edge_flat G laws _ _ _ _ (λ i x _ _. h x (suc i) ∙ sym (h x i)))
      ∙ left_neutral addition sums nought

  edges_base : (M : Hierarchy) (f : Faces A) → edges G M 0 f ≡ nought
  unfolding edges
  edges_base M f =
      ap₂ ◌⊕◌
      (edge_flat G laws _ _ _ _ (λ i y hi hy. base_live M (suc i) y hi hy ∙ sym (base_live M i y (le_of_lt hi) hy)))
      (edge_flat G laws _ _ _ _ (λ i x hi hx. base_live M x (suc i) hx hi ∙ sym (base_live M x i hx (le_of_lt hi))))
      ∙ left_neutral addition sums nought

  module _ (M : Hierarchy) (L : ℕ) (N : Nested M L) (F : Flux A) (split : A → Children A) (steps : ℕ) where
    -- A level step on level l changes the total of the levels from l on by its inward amount and what came in over the edge
    -- of the level's live cells.
    step_balance : (d l : ℕ) (cb : Field A) (u : Fields A) → ((x y : ℕ) → live M (l + d) x y ≡ false)
        → composite_total addition M d l (level_step G M F split steps d l cb u)
        ≡ composite_total addition M d l u ⊕ inward G M F split steps d l u ⊕ edges G M l (fluxes G M F split steps l cb (u l))
    unfolding composite_total level_step inward
    step_balance zero l cb u h =
        sym (ap₂ ◌⊕◌ (left_neutral addition sums nought) (edges_none M l _ (λ x y. ap (λ k. live M k x y) (sym (add-zero l)) ∙ h x y)) ∙ left_neutral addition sums nought)
    step_balance (suc d) l cb u h =
        ap₂ ◌⊕◌ (ap (level_total addition M l) (write_same l _ _)) (total_above addition M d (suc l) l _ _ (lt-suc_self l))
        ∙ combine _ _ _ _ _ _ _ _ _ _ _ (step_balance d (suc l) (u l) u h') (step_balance d (suc l) (u l) first h')
        (level_balance G laws M L N F split steps l cb (u l) _ _ _)
      where
        first : Fields A
        first = level_step G M F split steps d (suc l) (u l) u

        h' : (x y : ℕ) → live M (suc l + d) x y ≡ false
        h' x y = ap (λ k. live M k x y) (suc-add l d ∙ sym (add-suc l d)) ∙ h x y

pub step_conserves : (A : Type 0) → StepConserves A
unfolding step composite_total level_step inward
step_conserves A G laws M zero N F split steps u = sym (laws.sums.neutral G.addition.zero)
step_conserves A G laws M (suc k) N F split steps u =
    step_balance G laws M (suc k) N F split steps (suc k) 0 (λ x y. G.addition.zero) u (bottom M (suc k) N k refl)
    ∙ ap₂ G.addition.◌⊕◌ refl (edges_base G laws M _) ∙ laws.sums.neutral _
