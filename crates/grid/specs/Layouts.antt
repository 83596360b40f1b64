-- A layout as the rules read it, and the sheet of its marks. Assumes nothing.
use Rattle.std.specs.Prelude.{◌≡◌, ℕ, zero, suc, ◌<◌, List, [], slice_index}
use Rattle.grid.specs.declared.layout.Layout.{Layout}
use Rattle.grid.specs.Sizes.{level_width, level_height, index, sheet}
use Rattle.grid.specs.Tables.{used}
use Rattle.grid.specs.Hierarchies.{Patches, Hierarchy, laid, mark}

-- the patches of each level
abbrev pub patches_of : Layout → Patches
patches_of o zero = []
patches_of o (suc zero) = used o.first
patches_of o (suc (suc zero)) = used o.second
patches_of o (suc (suc (suc l))) = []

abbrev pub hierarchy_of : Layout → Hierarchy
hierarchy_of o = laid o.size (patches_of o)

-- the sheet of marks that a layout says
abbrev pub marks_of : Layout → List ℕ
marks_of o = sheet o.size (mark (hierarchy_of o))

-- row y of level l of a sheet has the marks that the layout says; and the whole level
abbrev pub RowMarked : Layout → List ℕ → ℕ → ℕ → Type 0
RowMarked o marks l y = (x : ℕ) → x < level_width o.size l → slice_index marks (index o.size l x y) ≡ mark (hierarchy_of o) l x y

abbrev pub LevelMarked : Layout → List ℕ → ℕ → Type 0
LevelMarked o marks l = (y : ℕ) → y < level_height o.size l → RowMarked o marks l y
