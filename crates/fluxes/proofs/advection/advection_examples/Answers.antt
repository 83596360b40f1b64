use Rattle.std.proofs.Common.{refl}
use Rattle.std.specs.Int.{int_wrap}
use Rattle.amount.specs.VolumesLemmas.{volume_eq}
use Rattle.fluxes.proofs.advection.advection_examples.Goals as goal

pub returns : goal.returns
unfolding int_wrap
returns c = (λ high. volume_eq _ _ refl, λ high. volume_eq _ _ refl)
