use Rattle.std.proofs.Common.{rules}
use Rattle.std.proofs.lemmas.Int.{wraps}
use Rattle.amount.specs.WatersLemmas.{water_eq}
use Rattle.refinement.proofs.shareable.WaterShareable.child_share.Goals as goal

pub returns : goal.returns
returns c = water_eq _ _ (search (rules, wraps)) (search (rules, wraps)) (search (rules, wraps))
