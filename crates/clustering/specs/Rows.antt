-- The boxes of a row, and patches that are written after others. Assumes nothing.
use Rattle.std.specs.Prelude.{◌≡◌, ℕ, ◌+◌, ◌<◌, ◌≤◌, Bool, List, [], ◌∷◌, ◌++◌, length, take, drop, Some, None, Ok, Err, Option, Result}
use Rattle.grid.specs.declared.patch.Patch.{Patch}
use Rattle.model.specs.Clusterings.{stretch, row_cells, row_runs}
use Rattle.interfaces.specs.declared.clustering.TooMany.{TooMany}
use Rattle.interfaces.specs.declared.cells.CellMaps.{CellMaps}
use Rattle.interfaces.specs.Answers.{mapped}
use Rattle.clustering.specs.declared.boxes.Boxes.{Boxes}

-- whether column x of row y is wanted
abbrev pub wanted_in : CellMaps → (y x : ℕ) → Bool
wanted_in c y x = mapped c.width c.height c.wanted.now x y

-- the wanted cells of row y
abbrev pub cells_in : CellMaps → ℕ → List Patch
cells_in c y = row_cells (wanted_in c y) y c.width 0

-- the runs of wanted cells of row y
abbrev pub runs_in : CellMaps → ℕ → List Patch
runs_in c y = row_runs (wanted_in c y) y c.width 0 None

-- the run that ends before column x of row y, if there is one, by its first column
abbrev pub run_before : (x y : ℕ) → Option ℕ → List Patch
run_before x y None = []
run_before x y (Some first) = stretch first x y ∷ []

-- The boxes stand after the first count patches, the others are as they were, and the new count n is that of the patches up to the last
-- box. Where there are more boxes than patches after the first count, the patches may hold anything.
abbrev pub Written : Result (Unit {0}) TooMany → (count n : ℕ) (before after boxes : List Patch) → Type 0
Written (Ok done) count n before after boxes =
    (n ≡ count + length boxes) × (n ≤ length before) × (after ≡ take count before ++ (boxes ++ drop n before))
Written (Err e) count n before after boxes = length before < count + length boxes

-- the same of the patches that are lent, which stay lent
pub record Wrote (result : Result (Unit {0}) TooMany) (before after : Boxes) (boxes : List Patch) : Type 0 where
  pub lent : after.patches.ghost_name ≡ before.patches.ghost_name
  pub written : Written result before.count after.count before.patches.now after.patches.now boxes
