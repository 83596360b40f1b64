-- Marks as bytes. Assumes nothing.
use Rattle.std.specs.Prelude.{ℕ}
use Rattle.grid.specs.declared.mark.Mark.{Mark}
use Rattle.grid.specs.declared.mark.Mark.TheVariants.{Dead, Leaf, Covered}

abbrev pub byte_of : Mark → ℕ
byte_of Dead = 0
byte_of Leaf = 1
byte_of Covered = 2
