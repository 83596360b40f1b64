-- The flux at a side of the grid, from the flux between two cells. Assumes nothing.
use Rattle.grid.specs.declared.side.Side.{Side}
use Rattle.grid.specs.declared.side.Side.TheVariants.{West, East, South, North}

-- What moves inward over a side, by the amount that moves between a low and a high cell: at the west and south the outer cell is the low
-- one; at the east and north it is the high one, and what moves inward is the negation.
abbrev pub inward_over : {A B : Type 0} → (B → B) → (A → A → B) → Side → (outer inner : A) → B
inward_over neg between West outer inner = between outer inner
inward_over neg between East outer inner = neg (between inner outer)
inward_over neg between South outer inner = between outer inner
inward_over neg between North outer inner = neg (between inner outer)
