-- Which hierarchies are nested, and which patches are well laid.
use Rattle.std.specs.Prelude.{◌≡◌, ℕ, suc, ◌<◌, ◌≤◌, true, List, [], length, slice_index_or}
use Rattle.grid.specs.declared.patch.Patch.{Patch}
use Rattle.grid.specs.declared.size.Size.{Size}
use Rattle.grid.specs.Sizes.{level_width, level_height}
use Rattle.grid.specs.Cells.{touching}
use Rattle.grid.specs.Boxes.{no_patch, Inside, Apart}
use Rattle.grid.specs.Hierarchies.{Patches, Hierarchy, laid, live}

-- A covered cell is live, so is each neighbour that it has inside the grid, and of L levels there is one for its children.
pub record Nested (M : Hierarchy) (L : ℕ) : Type 0 where
  pub itself : (l x y : ℕ) → M.covered l x y ≡ true → live M l x y ≡ true
  pub to_west : (l x y : ℕ) → M.covered l (suc x) y ≡ true → live M l x y ≡ true
  pub to_east : (l x y : ℕ) → M.covered l x y ≡ true → suc x < level_width M.size l → live M l (suc x) y ≡ true
  pub to_south : (l x y : ℕ) → M.covered l x (suc y) ≡ true → live M l x y ≡ true
  pub to_north : (l x y : ℕ) → M.covered l x y ≡ true → suc y < level_height M.size l → live M l x (suc y) ≡ true
  pub deep : (l x y : ℕ) → M.covered l x y ≡ true → suc l < L

-- each patch of a list has a cell and lies inside a grid w wide and h high
abbrev pub AllInside : (w h : ℕ) → List Patch → Type 0
AllInside w h ps = (i : ℕ) → i < length ps → Inside w h (slice_index_or ps i no_patch)

-- every covered cell has its whole ring live
abbrev pub RingsLive : Hierarchy → Type 0
RingsLive M =
    (l x y u v : ℕ) → M.covered l x y ≡ true → u < level_width M.size l → v < level_height M.size l → touching x y u v ≡ true
    → live M l u v ≡ true

-- Patches are well laid in a mesh of a size: each has a cell and lies inside its grid, those of a level share no cell and are at most 128,
-- past the last level there are none, and a covered cell is live with its whole ring.
pub record WellLaid (s : Size) (patches : Patches) : Type 0 where
  pub inside : (l : ℕ) → AllInside (level_width s l) (level_height s l) (patches (suc l))
  pub apart : (k : ℕ) → Apart (patches k)
  pub few : (k : ℕ) → length (patches k) ≤ 128
  pub none_past : (k : ℕ) → s.levels ≤ k → patches k ≡ []
  pub covered_live : (l x y : ℕ) → (laid s patches).covered l x y ≡ true → live (laid s patches) l x y ≡ true
  pub rings_live : RingsLive (laid s patches)
