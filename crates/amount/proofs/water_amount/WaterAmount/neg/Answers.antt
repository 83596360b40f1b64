use Rattle.std.proofs.Common.{ap, ◌∙◌, rules}
use Rattle.std.proofs.lemmas.Int.{wraps}
use Rattle.amount.specs.Waters.{plus, minus}
use Rattle.amount.specs.WatersLemmas.{water_eq, water_inverse}
use Rattle.amount.proofs.water_amount.WaterAmount.neg.Goals as goal

pub returns : goal.returns
returns c =
    let value = water_eq _ (minus c.args.self) (search (rules, wraps)) (search (rules, wraps)) (search (rules, wraps)) in
    record { value = value; inverse = ap (plus c.args.self) value ∙ water_inverse c.args.self }
