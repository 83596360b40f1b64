-- The patches of a table. Assumes nothing.
use Rattle.std.specs.Prelude.{List, take}
use Rattle.grid.specs.declared.patch.Patch.{Patch}
use Rattle.grid.specs.declared.table.PatchTable.{PatchTable}

-- the patches in use
abbrev pub used : PatchTable → List Patch
used t = take t.count t.patches
