use Rattle.std.proofs.Common.{arith}
use Rattle.std.proofs.lemmas.Int.{to_z-of_z, int_wrap_fits}
use Rattle.amount.specs.WatersLemmas.{water_eq}
use Rattle.shallow_water.proofs.crossings.water_along.Goals.{in-East, in-North}
use Rattle.shallow_water.proofs.crossings.water_along.Goals as goal

pub returns : goal.returns
returns c =
    elim c.match-direction.branch [ in-East w ↦ grind (arith, to_z-of_z, int_wrap_fits, water_eq) | in-North w ↦ grind (arith, to_z-of_z, int_wrap_fits, water_eq) ]
