-- What the code of a level computes: its width and height, and the cell of an entry. Assumes nothing.
use Rattle.std.proofs.Common.{◌≡◌, ◌≢◌, ℕ, zero, suc, ◌+◌, ◌*◌, ◌/◌, ◌%◌, ◌^◌, ◌<◌, ◌≤◌, true, Option, Some, None, MatchOption, sym, ap, ⊎_elim, div-lt_iff_lt-mul, arith}
use Rattle.std.proofs.lemmas.Nat.{mod_below, div-add-mod'}
use Rattle.std.proofs.lemmas.Bool.{cases_lt}
use Rattle.grid.specs.declared.place.Place.{Place}
use Rattle.grid.specs.declared.size.Size.{Size}
use Rattle.grid.specs.Sizes.{level_width, level_height, level_start, sheet_length, in_mesh, index}
use Rattle.grid.proofs.Indices.{in_mesh_parts, in_mesh_from}
use Rattle.grid.proofs.Sheets.{cell_at, row_ends}

pub shifted : (n l : ℕ) → 1 ≤ n → n ≤ 64 → l < 3
    → (n * 2 ^ l % 18446744073709551616 ≡ n * 2 ^ l) × ((1 ≤ n * 2 ^ l % 18446744073709551616) × (n * 2 ^ l % 18446744073709551616 ≤ 256))
shifted n zero lo hi lt = (omega arith, (omega arith, omega arith))
shifted n (suc zero) lo hi lt = (omega arith, (omega arith, omega arith))
shifted n (suc (suc zero)) lo hi lt = (omega arith, (omega arith, omega arith))
shifted n (suc (suc (suc l))) lo hi lt = absurd (omega arith)

-- what is known of the cell of a level whose entry stands at an index
abbrev pub CellOf : Size → ℕ → ℕ → Option (ℕ × Place) → Type 0
CellOf s l i o = MatchOption o ((x y : ℕ) → in_mesh s l x y ≡ true → index s l x y ≢ i) (λ c. (in_mesh s c.0 c.1.x c.1.y ≡ true) × (index s c.0 c.1.x c.1.y ≡ i))

-- the cell of level l whose entry stands at the offset f of the level
pub offset_cell : (s : Size) (l f w : ℕ) → w ≡ level_width s l → l < s.levels → f < level_height s l * level_width s l → 0 < w
    → (in_mesh s l (f % w) (f / w) ≡ true) × (index s l (f % w) (f / w) ≡ level_start s l + f)
offset_cell s l f w e ll lf some =
    let lf' : f < level_height s l * w = rw e lf in
    let row : f / w < level_height s l = (div-lt_iff_lt-mul some).1 lf' in
    (in_mesh_from s l (f % w) (f / w) ll (omega (arith, mod_below f w some)) row, omega (arith, ap (λ n. f / w * n) e, div-add-mod' f w))

-- no cell of level l stands past the end of the level
pub past_level : (s : Size) (l f i : ℕ) → level_start s l + f ≡ i → level_height s l * level_width s l ≤ f → (x y : ℕ) → in_mesh s l x y ≡ true → index s l x y ≢ i
past_level s l f i at le x y inside same =
    let parts = in_mesh_parts s l x y inside in
    absurd (omega (arith, parts.1, row_ends s l y parts.2))

-- no level has a cell there, or one has
pub cell_of_levels : (s : Size) (i : ℕ) (r : Option (ℕ × Place)) → MatchOption r ((l : ℕ) → l < s.levels → CellOf s l i None) (λ c. (l : ℕ) × CellOf s l i (Some c))
    → MatchOption r (sheet_length s ≤ i) (λ c. (in_mesh s c.0 c.1.x c.1.y ≡ true) × (index s c.0 c.1.x c.1.y ≡ i))
cell_of_levels s i None h =
    ⊎_elim
    (λ lt. let c = cell_at s i lt in absurd (h c.l c.in_levels c.x c.y (in_mesh_from s c.l c.x c.y c.in_levels c.in_columns c.in_rows) (sym c.is)))
    (λ ge. ge)
    (cases_lt i (sheet_length s))
cell_of_levels s i (Some c) h = h.1
