use Rattle.model.proofs.Steps.{step_conserves}
use Rattle.model.proofs.step_conserves.Goals as goal

pub returns : goal.returns
returns g c = step_conserves _
