-- The definitions of both clusterings, one cell and one row further.
use Rattle.std.proofs.Common.{◌≡◌, ℕ, zero, suc, ◌+◌, ◌-◌, ◌<◌, ◌≤◌, Bool, cond, List, [], ◌∷◌, ◌++◌, Some, None, Option, ap, ◌∙◌, add-one, arith}
use Rattle.std.specs.Option.{option_or}
use Rattle.grid.specs.declared.patch.Patch.{Patch}
use Rattle.model.specs.Clusterings.{stretch, row_runs, row_cells, by_rows}
use Rattle.interfaces.specs.declared.cells.CellMaps.{CellMaps}
use Rattle.clustering.specs.Rows.{wanted_in, run_before}

-- a definition over how many places are left, and the place: before a place is passed, and past the last
module _ {A : Type 0} (F : (d at : ℕ) → A) (i n : ℕ) where
  before_last : i < n → F (n - i) i ≡ F (suc (n - suc i)) i
  before_last h = let e : n - i ≡ suc (n - suc i) = omega arith in ap (λ d. F d i) e

  past_last : n ≤ i → F (n - i) i ≡ F zero i
  past_last h = let e : n - i ≡ 0 = omega arith in ap (λ d. F d i) e

-- the boxes of the rows from row y on
abbrev pub rows_from : (row : ℕ → List Patch) (h y : ℕ) → List Patch
rows_from row h y = by_rows row (h - y) y

module _ (row : ℕ → List Patch) (h y : ℕ) where
  pub next_row : y < h → rows_from row h y ≡ row y ++ rows_from row h (y + 1)
  unfolding by_rows
  next_row l = simp add-one (before_last (by_rows row) y h l)

  pub no_row : h ≤ y → rows_from row h y ≡ []
  unfolding by_rows
  no_row l = past_last (by_rows row) y h l

-- the wanted cells of row y from column x on
abbrev pub cells_from : CellMaps → (y x : ℕ) → List Patch
cells_from c y x = row_cells (wanted_in c y) y (c.width - x) x

-- its runs from column x on, with the first column of the run under way
abbrev pub runs_from : CellMaps → (y x : ℕ) → Option ℕ → List Patch
runs_from c y x first = row_runs (wanted_in c y) y (c.width - x) x first

module _ (c : CellMaps) (y x : ℕ) where
  pub next_cell : (b : Bool) → b ≡ wanted_in c y x → x < c.width
      → cells_from c y x ≡ cond b (stretch x (x + 1) y ∷ cells_from c y (x + 1)) (cells_from c y (x + 1))
  unfolding row_cells
  next_cell b e l = simp (e, add-one) (before_last (row_cells (wanted_in c y) y) x c.width l)

  pub no_cell : c.width ≤ x → cells_from c y x ≡ []
  unfolding row_cells
  no_cell l = past_last (row_cells (wanted_in c y) y) x c.width l

  pub next_run : (first : Option ℕ) (b : Bool) → b ≡ wanted_in c y x → x < c.width
      → runs_from c y x first ≡ cond b (runs_from c y (x + 1) (option_or first (Some x))) (run_before x y first ++ runs_from c y (x + 1) None)
  unfolding row_runs
  next_run None b e l = simp (e, add-one) (before_last (λ d z. row_runs (wanted_in c y) y d z None) x c.width l)
  next_run (Some a) b e l = simp (e, add-one) (before_last (λ d z. row_runs (wanted_in c y) y d z (Some a)) x c.width l)

  -- past the last column there is the run up to there, if one is under way
  pub last_run : (first : Option ℕ) → x ≡ c.width → runs_from c y x first ≡ run_before c.width y first
  unfolding row_runs
  last_run None e = past_last (λ d z. row_runs (wanted_in c y) y d z None) x c.width (omega arith)
  last_run (Some a) e = past_last (λ d z. row_runs (wanted_in c y) y d z (Some a)) x c.width (omega arith) ∙ ap (λ z. stretch a z y ∷ []) e
