-- The ranges of the numbers on the way to a flux. Assumes nothing.
use Rattle.std.specs.Prelude.{◌≤◌, ℤ, unsigned_abs}
use Rattle.shallow_water.specs.declared.along.Along.{Along}

-- z lies from -2^28 to 2^28
abbrev pub Small : ℤ → Type 0
Small z = unsigned_abs z ≤ 268435456

-- z lies from -5·2^26 to 5·2^26, as what crosses does, and so fits 32 bits
abbrev pub Narrow : ℤ → Type 0
Narrow z = unsigned_abs z ≤ 335544320

pub record NarrowParts (u : Along ℤ) : Type 0 where
  pub v : Narrow u.v
  pub n : Narrow u.n
  pub t : Narrow u.t
