use Rattle.std.proofs.Common.{rules}
use Rattle.std.proofs.lemmas.Int.{wraps}
use Rattle.amount.specs.WatersLemmas.{water_eq}
use Rattle.amount.proofs.water_amount.WaterAmount.add.Goals as goal

pub returns : goal.returns
returns c = water_eq _ _ (search (rules, wraps)) (search (rules, wraps)) (search (rules, wraps))
