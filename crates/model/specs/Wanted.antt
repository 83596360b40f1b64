-- Which cells a regrid wants covered, and what a clustering makes of them.
use Rattle.std.specs.Prelude.{◌≡◌, ℕ, suc, ◌<◌, Bool, true, cond, ◌&&◌, ◌||◌, List, Some, None, Option}
use Rattle.grid.specs.declared.patch.Patch.{Patch}
use Rattle.grid.specs.declared.place.Place.{Place}
use Rattle.grid.specs.declared.side.Side.TheVariants.{West, East, South, North}
use Rattle.grid.specs.Sizes.{level_width, level_height}
use Rattle.grid.specs.Cells.{place, neighbour_of}
use Rattle.grid.specs.Boxes.{held, Apart}
use Rattle.grid.specs.Hierarchies.{Hierarchy, live}
use Rattle.model.specs.Fields.{Fields}
use Rattle.model.specs.Nesting.{AllInside}
use Rattle.model.specs.Rings.{ring_some, ring_every, child_some}

-- the contents of the four neighbours of a cell
pub record Around (A : Type 0) : Type 0 where
  pub west : A
  pub east : A
  pub south : A
  pub north : A

-- flag LEVEL X Y CONTENT NEIGHBOURS says whether the cell is flagged.
abbrev pub Flagging : Type 0 → Type 0
Flagging A = (level x y : ℕ) → A → Around A → Bool

-- cluster WIDTH HEIGHT WANTED NESTED answers a list of boxes, from the cells that are wanted and those that are properly nested.
abbrev pub Clustering : Type 0
Clustering = (width height : ℕ) (wanted nested : ℕ → ℕ → Bool) → List Patch

-- The boxes have cells, lie inside the grid and share no cell; they hold only properly nested cells, and every wanted one.
pub record Clustered (w h : ℕ) (wanted nested : ℕ → ℕ → Bool) (boxes : List Patch) : Type 0 where
  pub in_grid : AllInside w h boxes
  pub apart : Apart boxes
  pub only_nested : (x y : ℕ) → held boxes x y ≡ true → nested x y ≡ true
  pub every_wanted : (x y : ℕ) → x < w → y < h → wanted x y ≡ true → held boxes x y ≡ true

-- the law of a clustering: so it answers wherever every wanted cell is properly nested
abbrev pub Clusters : Clustering → Type 0
Clusters cluster =
    (w h : ℕ) (wanted nested : ℕ → ℕ → Bool)
    → ((x y : ℕ) → x < w → y < h → wanted x y ≡ true → nested x y ≡ true)
    → Clustered w h wanted nested (cluster w h wanted nested)

module _ {A : Type 0} (M : Hierarchy) (u : Fields A) (l : ℕ) where
  -- the content of a live place; where the place is none, or not live, the content given
  abbrev pub content_or : A → Option Place → A
  content_or own None = own
  content_or own (Some p) = cond (live M l p.x p.y) (u l p.x p.y) own

  -- the neighbours' contents, an absent neighbour counting as the cell itself
  unfoldable pub around : ℕ → ℕ → Around A
  around x y = record {
    west = content_or (u l x y) (neighbour_of M.size l (place x y) West);
    east = content_or (u l x y) (neighbour_of M.size l (place x y) East);
    south = content_or (u l x y) (neighbour_of M.size l (place x y) South);
    north = content_or (u l x y) (neighbour_of M.size l (place x y) North);
  }

  -- the live cells for which the flagging says yes
  unfoldable pub flagged : Flagging A → ℕ → ℕ → Bool
  flagged flag x y = live M l x y && flag l x y (u l x y) (around x y)

  -- the flagged cells and their rings
  unfoldable pub buffer : Flagging A → ℕ → ℕ → Bool
  buffer flag x y = flagged flag x y || ring_some (level_width M.size l) (level_height M.size l) (flagged flag) x y

-- the parents of every cell of level l + 1 that is covered or has a covered cell in its ring
unfoldable pub nesting : Hierarchy → ℕ → ℕ → ℕ → Bool
nesting M l x y =
    child_some
    (λ a b. M.covered (suc l) a b || ring_some (level_width M.size (suc l)) (level_height M.size (suc l)) (M.covered (suc l)) a b) x y

-- live with the whole ring live
unfoldable pub properly_nested : Hierarchy → ℕ → ℕ → ℕ → Bool
properly_nested M l x y = live M l x y && ring_every (level_width M.size l) (level_height M.size l) (live M l) x y

-- the buffer and nesting cells that are properly nested
unfoldable pub wanted : {A : Type 0} → Hierarchy → Fields A → ℕ → Flagging A → ℕ → ℕ → Bool
wanted M u l flag x y = (buffer M u l flag x y || nesting M l x y) && properly_nested M l x y
