-- Cells that are not live: no call but a regrid changes them.
use Rattle.std.proofs.Common.{◌≡◌, ℕ, zero, suc, ◌*◌, true, false, not, ◌&&◌, eqb, sym, refl, ap, ◌∙◌, subst, ap₂, true≢false}
use native.Mathlib.Decide.{ℕ_discrete}
use Rattle.std.proofs.lemmas.Bool.{cond-false, cond_both, and_parts, eqb-true, false_from_ne_true}
use Rattle.grid.specs.Hierarchies.{Hierarchy, live, leaf}
use Rattle.model.specs.Fields.{Field, Fields, write}
use Rattle.model.specs.Pour.{added, pour}
use Rattle.model.specs.Groups.{Amounts}
use Rattle.model.specs.Nesting.{Nested}
use Rattle.model.specs.Interfaces.{Flux, Children}
use Rattle.model.specs.Step.{reflux, restrict, advance, level_step, step}
use Rattle.model.proofs.Writes.{write_same, write_other}
use Rattle.model.proofs.Pours.{at_corner}

module _ {A : Type 0} (G : Amounts A) (M : Hierarchy) (L : ℕ) (N : Nested M L) where
  pub not_covered : (l x y : ℕ) → live M l x y ≡ false → M.covered l x y ≡ false
  not_covered l x y h = false_from_ne_true _ (λ c. true≢false (sym (N.itself l x y c) ∙ h))

  not_leaf : (l x y : ℕ) → live M l x y ≡ false → leaf M l x y ≡ false
  not_leaf l x y h = ap (λ b. b && not (M.covered l x y)) h

  module _ (F : Flux A) (split : A → Children A) (steps : ℕ) where
    pub level_dead : (d l : ℕ) (cb : Field A) (u : Fields A) (k x y : ℕ) → live M k x y ≡ false
        → level_step G M F split steps d l cb u k x y ≡ u k x y
    unfolding level_step restrict reflux advance
    level_dead zero l cb u k x y h = refl
    level_dead (suc d) l cb u k x y h =
        elim (ℕ_discrete k l) [
          | yes e ↦ subst (λ j. level_step G M F split steps (suc d) l cb u j x y ≡ u j x y) (sym e)
              (here (subst (λ j. live M j x y ≡ false) e h))
          | no n ↦ ap (λ f. f x y) (write_other l k _ _ n)
              ∙ level_dead d (suc l) (u l) (level_step G M F split steps d (suc l) (u l) u) k x y h
              ∙ level_dead d (suc l) (u l) u k x y h
        ]
      where
        here : live M l x y ≡ false → level_step G M F split steps (suc d) l cb u l x y ≡ u l x y
        here h =
            ap (λ f. f x y) (write_same l _ _) ∙ cond-false _ _ _ (not_covered l x y h) ∙ cond-false _ _ _ (not_leaf l x y h)
            ∙ cond-false _ _ _ h

    pub step_dead : (u : Fields A) (k x y : ℕ) → live M k x y ≡ false → step G M F split steps L u k x y ≡ u k x y
    unfolding step
    step_dead u k x y h = level_dead L 0 _ u k x y h

  added_dead : (l x y : ℕ) (a : A) (u : Fields A) (k i j : ℕ) → live M l x y ≡ true → live M k i j ≡ false
      → write l (added G.addition x y a (u l)) u k i j ≡ u k i j
  unfolding added
  added_dead l x y a u k i j v h =
      elim (ℕ_discrete k l) [
        | yes e ↦ subst (λ n. write l (added G.addition x y a (u l)) u n i j ≡ u n i j) (sym e)
            (ap (λ f. f i j) (write_same l _ u) ∙ cond-false (eqb i x && eqb j y) (G.addition.◌⊕◌ (u l i j) a) (u l i j) (elsewhere (subst (λ n. live M n i j ≡ false) e h)))
        | no n ↦ ap (λ f. f i j) (write_other l k _ u n)
      ]
    where
      elsewhere : live M l i j ≡ false → (eqb i x && eqb j y) ≡ false
      elsewhere h =
          false_from_ne_true (eqb i x && eqb j y) (λ t.
          let p = and_parts (eqb i x) (eqb j y) t in
          true≢false (sym v ∙ sym (ap₂ (live M l) (eqb-true i x p.0) (eqb-true j y p.1)) ∙ h))

  pub pour_dead : (d l x y : ℕ) (a : A) (u : Fields A) (k i j : ℕ) → live M l x y ≡ true → live M k i j ≡ false
      → pour G.addition M d l x y a u k i j ≡ u k i j
  unfolding pour
  pour_dead zero l x y a u k i j v h = refl
  pour_dead (suc d) l x y a u k i j v h =
      cond_both (M.covered l x y) _ _ (λ (w : Fields A). w k i j ≡ u k i j)
      (λ c. pour_dead d (suc l) (2 * x) (2 * y) a (write l (added G.addition x y a (u l)) u) k i j (at_corner M l x y c) h ∙ added_dead l x y a u k i j v h)
      (λ c. added_dead l x y a u k i j v h)
