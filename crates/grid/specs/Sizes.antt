-- Sizes of a mesh and of its levels, and where each cell stands in a sheet. Assumes nothing.
use Rattle.std.specs.Prelude.{ℕ, zero, suc, ◌+◌, ◌*◌, ◌^◌, Bool, ◌&&◌, List, map, nat_le, nat_lt}
use Rattle.std.specs.List.{range_with_len, flat_map}
use Rattle.grid.specs.declared.size.Size.{Size}

abbrev pub size_of : ℕ → ℕ → ℕ → Size
size_of w h n = record { width = w; height = h; levels = n }

-- the sizes that a mesh can have: 1 to 64 columns and rows, at most 1,024 base cells, 1 to 3 levels
abbrev pub in_range : Size → Bool
in_range s =
    (nat_le 1 s.width && nat_le s.width 64) && (nat_le 1 s.height && nat_le s.height 64) && nat_le (s.width * s.height) 1024
    && (nat_le 1 s.levels && nat_le s.levels 3)

-- Level l is W·2^l wide and H·2^l high.
abbrev pub level_width : Size → ℕ → ℕ
level_width s l = s.width * 2 ^ l

abbrev pub level_height : Size → ℕ → ℕ
level_height s l = s.height * 2 ^ l

-- the cell (x, y) of level l is in the mesh
abbrev pub in_mesh : Size → ℕ → ℕ → ℕ → Bool
in_mesh s l x y = nat_lt l s.levels && (nat_lt x (level_width s l) && nat_lt y (level_height s l))

-- how many cells the levels below level l have for each base cell: 0, 1, 5, 21
abbrev pub cells_below : ℕ → ℕ
cells_below zero = 0
cells_below (suc l) = 4 * cells_below l + 1

-- where level l begins in a sheet
abbrev pub level_start : Size → ℕ → ℕ
level_start s l = s.width * s.height * cells_below l

-- how many entries a sheet has
abbrev pub sheet_length : Size → ℕ
sheet_length s = level_start s s.levels

-- where the cell (x, y) of level l stands in a sheet: level 0 first, each level row by row from the south-west
abbrev pub index : Size → ℕ → ℕ → ℕ → ℕ
index s l x y = level_start s l + y * level_width s l + x

-- the sheet that has f l x y for the cell (x, y) of level l
abbrev pub row_sheet : {X : Type 0} → Size → (ℕ → ℕ → ℕ → X) → ℕ → ℕ → List X
row_sheet s f l y = map (λ x. f l x y) (range_with_len 0 (level_width s l))

abbrev pub level_sheet : {X : Type 0} → Size → (ℕ → ℕ → ℕ → X) → ℕ → List X
level_sheet s f l = flat_map (row_sheet s f l) (range_with_len 0 (level_height s l))

abbrev pub sheet : {X : Type 0} → Size → (ℕ → ℕ → ℕ → X) → List X
sheet s f = flat_map (level_sheet s f) (range_with_len 0 s.levels)
