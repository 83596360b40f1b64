-- Patches as boxes of cells. Assumes nothing.
use Rattle.std.specs.Prelude.{◌≡◌, ℕ, ◌+◌, ◌*◌, ◌/◌, ◌<◌, ◌≤◌, Bool, true, false, ◌&&◌, ◌||◌, List, [], ◌∷◌, length, nat_le, nat_lt, slice_index_or}
use Rattle.grid.specs.declared.patch.Patch.{Patch}

-- what stands in the rows of a table that are not in use at first
abbrev pub no_patch : Patch
no_patch = record { x0 = 0; y0 = 0; x1 = 0; y1 = 0 }

-- the patch holds the cell (x, y)
abbrev pub holds : Patch → ℕ → ℕ → Bool
holds p x y = (nat_le p.x0 x && nat_lt x p.x1) && (nat_le p.y0 y && nat_lt y p.y1)

-- some patch of the list holds it
abbrev pub held : List Patch → ℕ → ℕ → Bool
held [] x y = false
held (p ∷ ps) x y = holds p x y || held ps x y

-- not empty, and inside a grid w wide and h high
abbrev pub Inside : ℕ → ℕ → Patch → Type 0
Inside w h p = (p.x0 < p.x1) × (p.x1 ≤ w) × (p.y0 < p.y1) × (p.y1 ≤ h)

-- a cell that two patches of the list hold
pub record Shared (ps : List Patch) : Type 0 where
  pub i : ℕ
  pub j : ℕ
  pub x : ℕ
  pub y : ℕ
  pub order : i < j
  pub in_use : j < length ps
  pub in_first : holds (slice_index_or ps i no_patch) x y ≡ true
  pub in_second : holds (slice_index_or ps j no_patch) x y ≡ true

-- no cell lies in two patches of the list
abbrev pub Apart : List Patch → Type 0
Apart ps = Shared ps → ⊥

-- the same column or row, or one next to it
abbrev pub Near : ℕ → ℕ → Type 0
Near a b = (a ≤ b + 1) × (b ≤ a + 1)

-- a cell (u, v) of a grid w wide and h high that is, or shares a side or a corner with, a cell (x, y) which a patch holds
pub record Beside (w h : ℕ) (ps : List Patch) : Type 0 where
  pub x : ℕ
  pub y : ℕ
  pub u : ℕ
  pub v : ℕ
  pub is_held : held ps x y ≡ true
  pub near_x : Near x u
  pub near_y : Near y v
  pub in_x : u < w
  pub in_y : v < h

-- Where a patch of level 2 holds a cell of level 1, a grid of 2w by 2h cells, this cell and its ring lie in patches of level 1.
abbrev pub Nested : (w h : ℕ) (first second : List Patch) → Type 0
Nested w h first second = (s : Beside (2 * w) (2 * h) second) → held first (s.u / 2) (s.v / 2) ≡ true
