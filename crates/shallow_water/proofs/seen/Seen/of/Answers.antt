use Rattle.std.proofs.Common.{◌≡◌, pos, arith}
use Rattle.std.proofs.lemmas.Int.{ints, clamps, to_z-of_z}
use Rattle.interfaces.specs.Whole.{bring_into}
use Rattle.shallow_water.specs.Waves.{bound}
use Rattle.shallow_water.proofs.seen.Seen.of.Goals.{in-East, in-North}
use Rattle.shallow_water.proofs.seen.Seen.of.Goals as goal

pub invariant_of-result : goal.invariant_of-result
invariant_of-result c = omega (arith, ints, clamps)

pub returns : goal.returns
returns c =
    let v : c.bounded.result ≡ bring_into (pos 0) bound c.args.water.v = omega (arith, ints, clamps) in
    elim c.match-direction.branch [ in-East w ↦ grind (arith, to_z-of_z) | in-North w ↦ grind (arith, to_z-of_z) ]
