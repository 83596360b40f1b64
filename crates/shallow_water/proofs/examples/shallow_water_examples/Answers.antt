use Rattle.std.proofs.Common.{refl}
use Rattle.std.specs.Int.{int_wrap}
use Rattle.amount.specs.WatersLemmas.{water_eq}
use Rattle.shallow_water.proofs.examples.shallow_water_examples.Goals as goal

pub returns : goal.returns
unfolding int_wrap
returns c = record { moving = water_eq _ _ refl refl refl; still = water_eq _ _ refl refl refl; still_finer = water_eq _ _ refl refl refl }
