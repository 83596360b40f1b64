use Rattle.model.proofs.Restrictions.{step_restricts}
use Rattle.model.proofs.step_restricts.Goals as goal

pub returns : goal.returns
returns g c = step_restricts _
