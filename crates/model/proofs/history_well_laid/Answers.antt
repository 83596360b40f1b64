use Rattle.model.proofs.Histories.{history_well_laid}
use Rattle.model.proofs.history_well_laid.Goals as goal

pub returns : goal.returns
returns g c = history_well_laid _
