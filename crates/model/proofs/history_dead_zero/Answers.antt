use Rattle.model.proofs.Histories.{history_dead_zero}
use Rattle.model.proofs.history_dead_zero.Goals as goal

pub returns : goal.returns
returns g c = history_dead_zero _
