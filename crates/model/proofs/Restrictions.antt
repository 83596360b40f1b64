-- After a step each covered cell holds the sum of its children.
use Rattle.std.proofs.Common.{◌≡◌, ℕ, zero, suc, ◌+◌, ◌<◌, ◌≤◌, true, sym, ap, ◌∙◌, subst, inl, inr, zero-le, lt_trans, lt-suc_self, eq-or-lt_of_le, arith}
use Rattle.std.proofs.lemmas.Bool.{cond-true}
use Rattle.grid.specs.Hierarchies.{Hierarchy}
use Rattle.model.specs.Fields.{Field, Fields, write}
use Rattle.model.specs.Groups.{Amounts}
use Rattle.model.specs.Interfaces.{Flux, Children}
use Rattle.model.specs.Step.{children_sum, restrict, level_step, step}
use Rattle.model.specs.Balance.{StepRestricts}
use Rattle.model.proofs.Writes.{write_same, write_above}

module _ {A : Type 0} (G : Amounts A) (M : Hierarchy) where
  -- a level that was restricted from the finer one, with the finer ones beside it
  restricted_here : (l : ℕ) (v : Field A) (u : Fields A) (x y : ℕ) → M.covered l x y ≡ true
      → write l (restrict G.addition M l (u (suc l)) v) u l x y ≡ children_sum G.addition (write l (restrict G.addition M l (u (suc l)) v) u (suc l)) x y
  unfolding restrict
  restricted_here l v u x y c =
      ap (λ f. f x y) (write_same l _ u) ∙ cond-true _ _ _ c
      ∙ ap (λ f. children_sum G.addition f x y) (sym (write_above l (suc l) _ u (lt-suc_self l)))

  restricted_above : (l k : ℕ) (v : Field A) (u : Fields A) (x y : ℕ) → l < k → u k x y ≡ children_sum G.addition (u (suc k)) x y
      → write l v u k x y ≡ children_sum G.addition (write l v u (suc k)) x y
  restricted_above l k v u x y h e =
      ap (λ f. f x y) (write_above l k v u h) ∙ e
      ∙ ap (λ f. children_sum G.addition f x y) (sym (write_above l (suc k) v u (lt_trans h (lt-suc_self k))))

  module _ (F : Flux A) (split : A → Children A) (steps : ℕ) where
    restricted : (d l : ℕ) (cb : Field A) (u : Fields A) (k x y : ℕ) → l ≤ k → k < l + d → M.covered k x y ≡ true
        → level_step G M F split steps d l cb u k x y ≡ children_sum G.addition (level_step G M F split steps d l cb u (suc k)) x y
    unfolding level_step
    restricted zero l cb u k x y h g c = absurd (omega arith)
    restricted (suc d) l cb u k x y h g c =
        elim (eq-or-lt_of_le h) [
          | inl e ↦ subst (λ j. level_step G M F split steps (suc d) l cb u j x y ≡ children_sum G.addition (level_step G M F split steps (suc d) l cb u (suc j)) x y) e
              (restricted_here l _ second x y (subst (λ j. M.covered j x y ≡ true) (sym e) c))
          | inr h' ↦ restricted_above l k _ _ x y h' (restricted d (suc l) (u l) _ k x y h' (omega arith) c)
        ]
      where
        second : Fields A
        second = level_step G M F split steps d (suc l) (u l) (level_step G M F split steps d (suc l) (u l) u)

pub step_restricts : (A : Type 0) → StepRestricts A
unfolding step
step_restricts A G laws M L N F split steps u k x y c =
    restricted G M F split steps L 0 _ u k x y zero-le (omega (arith, N.deep k x y c)) c
