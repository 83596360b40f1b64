-- Fields with one level written: that level, the others, and the totals of finer levels.
use Rattle.std.proofs.Common.{◌≡◌, ℕ, zero, suc, ◌<◌, refl, ap, ap₂, lt_trans, lt_irrefl, lt-suc_self, arith}
use Rattle.std.proofs.lemmas.Bool.{cond-true, cond-false, eq-eqb, ne_eqb}
use Rattle.amount.specs.Additions.{Addition}
use Rattle.grid.specs.Hierarchies.{Hierarchy}
use Rattle.model.specs.Fields.{Field, Fields, write}
use Rattle.model.specs.Total.{level_total, composite_total}

module _ {A : Type 0} where
  pub write_same : (l : ℕ) (f : Field A) (u : Fields A) → write l f u l ≡ f
  unfolding write
  write_same l f u = cond-true _ _ _ (eq-eqb l l refl)

  pub write_other : (l k : ℕ) (f : Field A) (u : Fields A) → (k ≡ l → ⊥) → write l f u k ≡ u k
  unfolding write
  write_other l k f u h = cond-false _ _ _ (ne_eqb k l h)

  pub write_above : (l k : ℕ) (f : Field A) (u : Fields A) → l < k → write l f u k ≡ u k
  write_above l k f u h = write_other l k f u (λ e. lt_irrefl l (omega arith))

  -- finer levels do not see what is written on level l
  pub total_above : (G : Addition A) (M : Hierarchy) (d k l : ℕ) (f : Field A) (u : Fields A) → l < k
      → composite_total G M d k (write l f u) ≡ composite_total G M d k u
  unfolding composite_total
  total_above G M zero k l f u h = refl
  total_above G M (suc d) k l f u h =
      ap₂ G.◌⊕◌ (ap (level_total G M k) (write_above l k f u h)) (total_above G M d (suc k) l f u (lt_trans h (lt-suc_self k)))
