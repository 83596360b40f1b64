use Rattle.model.proofs.Idle.{idle_level}
use Rattle.model.proofs.idle_level.Goals as goal

pub returns : goal.returns
returns g c = idle_level _
