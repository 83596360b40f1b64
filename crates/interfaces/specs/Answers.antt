-- How answers of the interfaces are read. Assumes nothing.
use Rattle.std.specs.Prelude.{◌≡◌, ℕ, ◌+◌, ◌*◌, ◌<◌, ◌≤◌, Bool, not, ◌&&◌, List, ◌++◌, length, drop, Ok, Err, Result, ◌==◌, nat_lt, slice_index}
use Rattle.grid.specs.declared.patch.Patch.{Patch}
use Rattle.model.specs.Interfaces.{Children}
use Rattle.model.specs.Wanted.{Around, Clustering}
use Rattle.interfaces.specs.declared.neighbours.Neighbours.{Neighbours}
use Rattle.interfaces.specs.declared.clustering.TooMany.{TooMany}
use Rattle.interfaces.specs.declared.cells.CellMaps.{CellMaps}

-- the four children in their order: SW, SE, NW, NE
abbrev pub in_order : {A : Type 0} → Children A → A × A × A × A
in_order q = (q.sw, q.se, q.nw, q.ne)

-- the neighbours' contents
abbrev pub around : {A : Type 0} → Neighbours A → Around A
around n = record { west = n.west; east = n.east; south = n.south; north = n.north }

-- A map of a grid w wide and h high has a byte for each cell, row by row. The cell is in it if its byte is not 0.
abbrev pub mapped : (w h : ℕ) → List ℕ → ℕ → ℕ → Bool
mapped w h bytes x y = (nat_lt x w && nat_lt y h) && not (slice_index bytes (y * w + x) == 0)

-- what a clustering answers of these cells
abbrev pub asked : Clustering → CellMaps → List Patch
asked boxes c =
    boxes c.width c.height (mapped c.width c.height c.wanted.now) (mapped c.width c.height c.nested.now)

-- The boxes stand first among the patches, the others are as they were, and the answer counts the boxes. Where there are more boxes than
-- patches, the patches may hold anything.
abbrev pub Clustered : Result ℕ TooMany → (before after boxes : List Patch) → Type 0
Clustered (Ok n) before after boxes = (n ≡ length boxes) × (length boxes ≤ length before) × (after ≡ boxes ++ drop (length boxes) before)
Clustered (Err e) before after boxes = length before < length boxes
