-- Two clusterings, both row by row from the south-west: each whole run of wanted cells, and each wanted cell.
use Rattle.std.specs.Prelude.{ℕ, zero, suc, Bool, cond, List, [], ◌∷◌, ◌++◌, Some, None, Option}
use Rattle.grid.specs.declared.patch.Patch.{Patch}
use Rattle.model.specs.Wanted.{Clustering, Clusters}

-- the columns a up to b of row y, b excluded
abbrev pub stretch : (a b y : ℕ) → Patch
stretch a b y = record { x0 = a; y0 = y; x1 = b; y1 = suc y }

-- the runs of row y among d cells from column x on, with the first column of the run that column x - 1 ends, if it is wanted
unfoldable pub row_runs : (wanted : ℕ → Bool) (y d x : ℕ) → Option ℕ → List Patch
row_runs wanted y zero x None = []
row_runs wanted y zero x (Some a) = stretch a x y ∷ []
row_runs wanted y (suc d) x None = cond (wanted x) (row_runs wanted y d (suc x) (Some x)) (row_runs wanted y d (suc x) None)
row_runs wanted y (suc d) x (Some a) =
    cond (wanted x) (row_runs wanted y d (suc x) (Some a)) (stretch a x y ∷ row_runs wanted y d (suc x) None)

-- d rows from row y on, each by itself
unfoldable pub by_rows : (ℕ → List Patch) → (d y : ℕ) → List Patch
by_rows row zero y = []
by_rows row (suc d) y = row y ++ by_rows row d (suc y)

-- every run of wanted cells of a grid
unfoldable pub runs : Clustering
runs w h wanted nested = by_rows (λ y. row_runs (λ x. wanted x y) y w 0 None) h 0

-- each wanted cell of row y as a box, among d cells from column x on
unfoldable pub row_cells : (wanted : ℕ → Bool) (y d x : ℕ) → List Patch
row_cells wanted y zero x = []
row_cells wanted y (suc d) x = cond (wanted x) (stretch x (suc x) y ∷ row_cells wanted y d (suc x)) (row_cells wanted y d (suc x))

-- every wanted cell of a grid as a box
unfoldable pub cells : Clustering
cells w h wanted nested = by_rows (λ y. row_cells (λ x. wanted x y) y w 0) h 0

-- both keep the law of clusterings
abbrev pub ClusteringsLawful : Type 0
ClusteringsLawful = Clusters cells × Clusters runs
