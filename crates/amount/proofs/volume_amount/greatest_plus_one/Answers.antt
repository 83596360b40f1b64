use Rattle.std.proofs.Common.{refl, ◌∙◌}
use Rattle.std.specs.Int.{int_wrap}
use Rattle.amount.specs.VolumesLemmas.{volume_eq}
use Rattle.amount.proofs.volume_amount.greatest_plus_one.Goals as goal

pub returns : goal.returns
unfolding int_wrap
returns c = record { sum = c.add.ensures ∙ volume_eq _ _ refl; least = c.add.ensures ∙ volume_eq _ _ refl }
