use Rattle.model.proofs.Beginnings.{opening_right}
use Rattle.model.proofs.opening_begins.Goals as goal

pub returns : goal.returns
returns g c = opening_right _
