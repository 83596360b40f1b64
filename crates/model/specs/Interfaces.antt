-- What a step is told: the flux between cells and at the boundary, and the split of a parent's content.
use Rattle.std.specs.Prelude.{◌≡◌, ℕ, ◌%◌, cond, ◌==◌}
use Rattle.amount.specs.Additions.{Addition}
use Rattle.grid.specs.declared.side.Side.{Side}
use Rattle.model.specs.declared.direction.Direction.{Direction}

-- interior LEVEL DIRECTION LOW HIGH is the amount that moves from the low (west or south) cell to the high one, by their contents.
-- boundary LEVEL SIDE PLACE STEPS CONTENT is the amount that moves inward over a side of the grid into the cell at a place along it.
pub record Flux (A : Type 0) : Type 0 where
  pub interior : ℕ → Direction → A → A → A
  pub boundary : ℕ → Side → ℕ → ℕ → A → A

-- contents of the four children of a cell
pub record Children (A : Type 0) : Type 0 where
  pub sw : A
  pub se : A
  pub nw : A
  pub ne : A

-- the content of the child at (x, y) among the children of its parent
unfoldable pub child : {A : Type 0} → Children A → ℕ → ℕ → A
child q x y = cond (y % 2 == 0) (cond (x % 2 == 0) q.sw q.se) (cond (x % 2 == 0) q.nw q.ne)

-- the law of a split: the four children add up to the parent
abbrev pub Splits : {A : Type 0} → Addition A → (A → Children A) → Type 0
Splits G split = (a : _) → G.◌⊕◌ (G.◌⊕◌ (G.◌⊕◌ (split a).sw (split a).se) (split a).nw) (split a).ne ≡ a
