-- The five sheets, and which call is refused when. Assumes nothing.
use Rattle.std.specs.Prelude.{ℕ, Bool, cond, ◌&&◌, List, length, Some, None, Option, ◌==◌}
use Rattle.std.specs.Str.{bytes_eq}
use Rattle.grid.specs.declared.size.Size.{Size}
use Rattle.grid.specs.Sizes.{in_range, in_mesh, sheet_length, sheet}
use Rattle.grid.specs.Hierarchies.{mark}
use Rattle.model.specs.States.{State, hierarchy}

-- The five sheets that a call is lent. Before, corrections and wanted are working sheets.
pub record Sheets (A : Type 0) : Type 0 where
  pub contents : List A
  pub before : List A
  pub corrections : List A
  pub marks : List ℕ
  pub wanted : List ℕ

-- each of the five has n entries
abbrev pub all_long : {A : Type 0} → ℕ → Sheets A → Bool
all_long n sheets =
    (length sheets.contents == n) && length sheets.before == n && length sheets.corrections == n
    && length sheets.marks == n && length sheets.wanted == n

-- each of the five has an entry for each cell
abbrev pub whole : {A : Type 0} → Size → Sheets A → Bool
whole s sheets = all_long (sheet_length s) sheets

-- the marks are what the patches say, every one
abbrev pub marked : {A : Type 0} → State A → Sheets A → Bool
marked s sheets = bytes_eq sheets.marks (sheet s.size (mark (hierarchy s)))

-- n is the refusal unless the test passes; then the others are asked
abbrev pub unless : Bool → ℕ → Option ℕ → Option ℕ
unless test n others = cond test others (Some n)

-- The lowest refusal that applies, of each call: 1 the size is out of range, 2 a sheet has not the right length,
-- 4 the place is outside the grid, 5 the marks differ from what the patches say.
abbrev pub open_refusal : {A : Type 0} → Size → Sheets A → Option ℕ
open_refusal size sheets = unless (in_range size) 1 (unless (whole size sheets) 2 None)

abbrev pub pour_refusal : {A : Type 0} → State A → Sheets A → (x y : ℕ) → Option ℕ
pour_refusal s sheets x y = unless (whole s.size sheets) 2 (unless (in_mesh s.size 0 x y) 4 (unless (marked s sheets) 5 None))

abbrev pub audit_refusal : {A : Type 0} → State A → Sheets A → Option ℕ
audit_refusal s sheets = unless (whole s.size sheets) 2 (unless (marked s sheets) 5 None)
