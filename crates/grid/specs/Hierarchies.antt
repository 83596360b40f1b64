-- Live and covered cells of a mesh, and the mark of each. Assumes nothing.
use Rattle.std.specs.Prelude.{ℕ, zero, suc, ◌/◌, Bool, cond, not, ◌&&◌, List, nat_lt}
use Rattle.grid.specs.declared.patch.Patch.{Patch}
use Rattle.grid.specs.declared.size.Size.{Size}
use Rattle.grid.specs.Boxes.{held}

-- The patches of a mesh by level. Those of level l + 1 are boxes in cells of level l.
abbrev pub Patches : Type 0
Patches = ℕ → List Patch

-- The levels of a mesh: its size, and which cells are covered by finer ones, covered LEVEL X Y.
pub record Hierarchy : Type 0 where
  pub size : Size
  pub covered : ℕ → ℕ → ℕ → Bool

-- A cell is covered if a patch of the next level holds it.
abbrev pub laid : Size → Patches → Hierarchy
laid s patches = record { size = s; covered = λ l x y. held (patches (suc l)) x y }

-- All of level 0 is live; a deeper cell is live exactly when its parent is covered.
abbrev pub live : Hierarchy → ℕ → ℕ → ℕ → Bool
live M zero x y = nat_lt x M.size.width && nat_lt y M.size.height
live M (suc l) x y = M.covered l (x / 2) (y / 2)

-- live and uncovered: the cells that a total counts
abbrev pub leaf : Hierarchy → ℕ → ℕ → ℕ → Bool
leaf M l x y = live M l x y && not (M.covered l x y)

-- A mark is 2 for a covered cell, 1 for one that is live and uncovered, 0 for one that is not live.
abbrev pub mark : Hierarchy → ℕ → ℕ → ℕ → ℕ
mark M l x y = cond (M.covered l x y) 2 (cond (live M l x y) 1 0)
