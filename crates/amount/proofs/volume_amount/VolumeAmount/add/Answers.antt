use Rattle.std.proofs.Common.{rules}
use Rattle.std.proofs.lemmas.Int.{wraps}
use Rattle.amount.specs.VolumesLemmas.{volume_eq}
use Rattle.amount.proofs.volume_amount.VolumeAmount.add.Goals as goal

pub returns : goal.returns
returns c = volume_eq _ _ (search (rules, wraps))
