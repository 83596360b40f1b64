use Rattle.std.proofs.Common.{ap, ◌∙◌, rules}
use Rattle.std.proofs.lemmas.Int.{wraps}
use Rattle.amount.specs.Volumes.{plus, minus}
use Rattle.amount.specs.VolumesLemmas.{volume_eq, volume_inverse}
use Rattle.amount.proofs.volume_amount.VolumeAmount.neg.Goals as goal

pub returns : goal.returns
returns c =
    let value = volume_eq _ (minus c.args.self) (search (rules, wraps)) in
    record { value = value; inverse = ap (plus c.args.self) value ∙ volume_inverse c.args.self }
