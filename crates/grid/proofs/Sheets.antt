-- Where the cells of a mesh stand in a sheet, and the sheet of what is known of each cell. Assumes nothing.
use Rattle.std.proofs.Common.{◌≡◌, ℕ, zero, suc, ◌+◌, ◌*◌, ◌^◌, ◌<◌, ◌≤◌, List, length, get_or, sym, refl, ap, ◌∙◌, pow-suc, add-one, arith}
use Rattle.std.proofs.lemmas.List.FromFn.{length-map-range_with_len, get_or-map-range_with_len}
use Rattle.std.proofs.lemmas.List.{ext_get_or}
use Rattle.grid.specs.declared.size.Size.{Size}
use Rattle.grid.specs.Sizes.{level_width, level_height, cells_below, level_start, sheet_length, index, row_sheet, level_sheet, sheet}
use Rattle.grid.proofs.Joins.{part_ends, found, length-joined, get_or-joined}

powers : (l : ℕ) → 3 * cells_below l + 1 ≡ 2 ^ l * 2 ^ l
powers zero = refl
powers (suc l) = let p = powers l in rw pow-suc (omega arith)

-- a cell of the mesh whose index is j
pub record CellAt (s : Size) (j : ℕ) : Type 0 where
  pub l : ℕ
  pub x : ℕ
  pub y : ℕ
  pub in_levels : l < s.levels
  pub in_columns : x < level_width s l
  pub in_rows : y < level_height s l
  pub is : j ≡ index s l x y

module _ (s : Size) where
  level_next : (l : ℕ) → level_start s (suc l) ≡ level_start s l + level_height s l * level_width s l
  level_next l = let p = ap (λ n. s.width * s.height * n) (powers l) in omega arith

  row_next : (l y : ℕ) → suc y * level_width s l ≡ y * level_width s l + level_width s l
  row_next l y = omega arith

  -- a level begins after the levels below it, and ends inside the sheet
  pub starts_mono : (k l : ℕ) → k < l → level_start s (k + 1) ≤ level_start s l
  starts_mono k l lt = rw add-one (omega (arith, level_next k, part_ends (level_start s) (λ k. level_height s k * level_width s k) level_next l k lt))

  pub level_fits : (l : ℕ) → l < s.levels → level_start s (l + 1) ≤ sheet_length s
  level_fits l ll = starts_mono l s.levels ll

  -- each row of a level lies inside the level
  pub row_ends : (l y : ℕ) → y < level_height s l → y * level_width s l + level_width s l ≤ level_height s l * level_width s l
  row_ends l y ly = part_ends (λ k. k * level_width s l) (λ _. level_width s l) (row_next l) (level_height s l) y ly

  pub row_ends_in : (l y : ℕ) → y < level_height s l → level_start s l + y * level_width s l + level_width s l ≤ level_start s (l + 1)
  row_ends_in l y ly = rw add-one (omega (arith, level_next l, row_ends l y ly))

  -- and inside the sheet
  pub row_fits : (l y : ℕ) → l < s.levels → y < level_height s l → level_start s l + y * level_width s l + level_width s l ≤ sheet_length s
  row_fits l y ll ly = omega (arith, row_ends_in l y ly, level_fits l ll)

  -- and so does each cell
  pub index_below : (l x y : ℕ) → l < s.levels → x < level_width s l → y < level_height s l → index s l x y < sheet_length s
  index_below l x y ll lx ly = omega (arith, row_fits l y ll ly)

  -- each index below the length is that of a cell
  pub cell_at : (j : ℕ) → j < sheet_length s → CellAt s j
  cell_at j lj =
      let p = found (level_start s) (λ l. level_height s l * level_width s l) level_next s.levels j (omega arith) lj in
      let q = found (λ y. y * level_width s p.k) (λ _. level_width s p.k) (row_next p.k) (level_height s p.k) p.i (omega arith) p.within in
      record { l = p.k; x = q.i; y = q.k; in_levels = p.part; in_columns = q.within; in_rows = q.part; is = omega (arith, p.is, q.is) }

module _ {X : Type 0} (s : Size) (f : ℕ → ℕ → ℕ → X) where
  length-row : (l y : ℕ) → length (row_sheet s f l y) ≡ level_width s l
  length-row l y = length-map-range_with_len (λ x. f l x y) 0 (level_width s l)

  row_more : (l y : ℕ) → suc y * level_width s l ≡ y * level_width s l + length (row_sheet s f l y)
  row_more l y = omega (arith, length-row l y, row_next s l y)

  length_level : (l : ℕ) → length (level_sheet s f l) ≡ level_height s l * level_width s l
  length_level l = length-joined (row_sheet s f l) (λ y. y * level_width s l) (omega arith) (row_more l) (level_height s l)

  level_more : (l : ℕ) → level_start s (suc l) ≡ level_start s l + length (level_sheet s f l)
  level_more l = omega (arith, length_level l, level_next s l)

  pub length-sheet : length (sheet s f) ≡ sheet_length s
  length-sheet = length-joined (level_sheet s f) (level_start s) (omega arith) level_more s.levels

  -- the sheet has at a cell's index what f says of the cell
  pub sheet_at : (l x y : ℕ) (d : X) → l < s.levels → x < level_width s l → y < level_height s l → get_or (sheet s f) (index s l x y) d ≡ f l x y
  sheet_at l x y d ll lx ly =
      let e : level_start s l + y * level_width s l + x ≡ level_start s l + (y * level_width s l + x) = omega arith in
      ap (λ n. get_or (sheet s f) n d) e
      ∙ (get_or-joined (level_sheet s f) (level_start s) (omega arith) level_more s.levels l (y * level_width s l + x) d ll (omega (arith, length_level l, row_ends s l y ly))
      ∙ (get_or-joined (row_sheet s f l) (λ k. k * level_width s l) (omega arith) (row_more l) (level_height s l) y x d ly (omega (arith, length-row l y))
      ∙ get_or-map-range_with_len (λ k. f l k y) 0 (level_width s l) x x d lx (omega arith)))

  -- a list with what f says of each cell at the cell's index is the sheet
  pub is_sheet : (d : X) (xs : List X) → length xs ≡ sheet_length s
      → ((l x y : ℕ) → l < s.levels → x < level_width s l → y < level_height s l → get_or xs (index s l x y) d ≡ f l x y) → xs ≡ sheet s f
  is_sheet d xs long each =
      ext_get_or d xs (sheet s f) (long ∙ sym length-sheet) (λ j lj.
      let c = cell_at s j (omega (arith, long)) in
      ap (λ n. get_or xs n d) c.is
      ∙ (each c.l c.x c.y c.in_levels c.in_columns c.in_rows
      ∙ (sym (sheet_at c.l c.x c.y d c.in_levels c.in_columns c.in_rows) ∙ ap (λ n. get_or (sheet s f) n d) (sym c.is))))
