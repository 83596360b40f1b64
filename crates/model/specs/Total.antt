-- The composite total: what all live uncovered cells hold. Assumes nothing.
use Rattle.std.specs.Prelude.{ℕ, zero, suc}
use Rattle.amount.specs.Additions.{Addition}
use Rattle.grid.specs.Sizes.{level_width, level_height}
use Rattle.grid.specs.Hierarchies.{Hierarchy, leaf}
use Rattle.model.specs.Fields.{Field, Fields}
use Rattle.model.specs.Sums.{gate, area}

module _ {A : Type 0} (G : Addition A) (M : Hierarchy) where
  -- the live uncovered cells of level l
  unfoldable pub level_total : ℕ → Field A → A
  level_total l v = area G (level_width M.size l) (level_height M.size l) (λ x y. gate G (leaf M l x y) (v x y))

  -- of d levels from level l on
  unfoldable pub composite_total : (d l : ℕ) → Fields A → A
  composite_total zero l u = G.zero
  composite_total (suc d) l u = G.◌⊕◌ (level_total l (u l)) (composite_total d (suc l) u)
