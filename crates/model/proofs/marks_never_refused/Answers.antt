use Rattle.model.proofs.Beginnings.{marks_never_refused}
use Rattle.model.proofs.marks_never_refused.Goals as goal

pub returns : goal.returns
returns g c = marks_never_refused _
