use Rattle.std.proofs.Common.{refl}
use Rattle.std.specs.Int.{int_wrap}
use Rattle.amount.specs.WatersLemmas.{water_eq}
use Rattle.amount.proofs.water_amount.WaterAmount.zero.Goals as goal

pub returns : goal.returns
unfolding int_wrap
returns c = water_eq _ _ refl refl refl
