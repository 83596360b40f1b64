use Rattle.std.proofs.Common.{refl}
use Rattle.std.specs.Int.{int_wrap}
use Rattle.amount.specs.VolumesLemmas.{volume_eq}
use Rattle.amount.proofs.volume_amount.VolumeAmount.zero.Goals as goal

pub returns : goal.returns
unfolding int_wrap
returns c = volume_eq _ _ refl
