use Rattle.std.proofs.Common.{◌^◌, le-div_iff_mul-le, arith}
use Rattle.std.proofs.lemmas.Nat.{pow_pos}
use Rattle.std.proofs.lemmas.Bool.Decides.{nat_tests}
use Rattle.refinement.proofs.from_column.FromColumnFlagging.flag.Goals as goal

-- A base column is at or before that of x exactly if it begins, on the level of x, at or before x.
pub returns : goal.returns
returns g c =
    let same = le-div_iff_mul-le {k = 2 ^ c.args.level} {x = c.args.self.now.column} {y = c.args.place.x} (pow_pos c.args.level) in
    grind (arith, nat_tests)
