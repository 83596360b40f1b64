use Rattle.model.proofs.Histories.{history_balances}
use Rattle.model.proofs.history_balances.Goals as goal

pub returns : goal.returns
returns g c = history_balances _
