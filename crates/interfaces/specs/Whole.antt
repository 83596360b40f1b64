-- Whole numbers that are rounded down or brought into a range. Assumes nothing.
use Rattle.std.specs.Prelude.{Bool, ◌&&◌, ℤ, int_le}
use Rattle.std.specs.Int.{int_div_euclid, int_min, int_max}

-- z / d rounded toward minus infinity, for a positive d
abbrev pub floor_div : (z d : ℤ) → ℤ
floor_div z d = int_div_euclid z d

-- z brought into the range from low to high
abbrev pub bring_into : (low high z : ℤ) → ℤ
bring_into low high z = int_max low (int_min z high)

-- z lies from low to high
abbrev pub lies_within : (low high z : ℤ) → Bool
lies_within low high z = int_le low z && int_le z high
