use Rattle.model.proofs.Regrids.{regrid_conserves}
use Rattle.model.proofs.regrid_conserves.Goals as goal

pub returns : goal.returns
returns g c = regrid_conserves _
