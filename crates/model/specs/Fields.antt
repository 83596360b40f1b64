-- Amounts by cell: fields, and a sheet read as fields. Assumes nothing.
use Rattle.std.specs.Prelude.{ℕ, cond, List, ◌==◌, slice_index_or}
use Rattle.grid.specs.declared.size.Size.{Size}
use Rattle.grid.specs.Sizes.{in_mesh, index}

-- the amounts of one level, by x and y; and of all levels
abbrev pub Field : Type 0 → Type 0
Field A = ℕ → ℕ → A

abbrev pub Fields : Type 0 → Type 0
Fields A = ℕ → Field A

-- the fields with the field of one level replaced
unfoldable pub write : {A : Type 0} → ℕ → Field A → Fields A → Fields A
write l f u k = cond (k == l) f (u k)

-- A sheet read as fields: the entry of each cell of the mesh, and zero for every other place.
unfoldable pub fields_of : {A : Type 0} → Size → A → List A → Fields A
fields_of s zero sheet l x y = cond (in_mesh s l x y) (slice_index_or sheet (index s l x y) zero) zero
