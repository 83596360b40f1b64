-- Flaggings: which cells are to be refined. Assumes nothing.
use Rattle.std.specs.Prelude.{ℕ, ◌*◌, ◌^◌, Bool, ◌||◌, ℤ, ◌-ℤ◌, nat_le, nat_lt, unsigned_abs}
use Rattle.model.specs.Wanted.{Flagging}

-- two volumes, as whole numbers, differ by more than a threshold
abbrev pub steep_between : ℕ → (a b : ℤ) → Bool
steep_between threshold a b = nat_lt threshold (unsigned_abs (a -ℤ b))

-- Yes if some neighbour's volume differs from the cell's by more than the threshold.
abbrev pub steep : {A : Type 0} → (A → ℤ) → ℕ → Flagging A
steep volume threshold level x y content around =
    steep_between threshold (volume content) (volume around.west) || steep_between threshold (volume content) (volume around.east)
    || steep_between threshold (volume content) (volume around.south) || steep_between threshold (volume content) (volume around.north)

-- Yes to every cell from a base column on: column X of level 0 is column X·2^l of level l.
abbrev pub from_column : {A : Type 0} → ℕ → Flagging A
from_column column level x y content around = nat_le (column * 2 ^ level) x
