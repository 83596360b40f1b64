use Rattle.model.proofs.Examples.{small_example}
use Rattle.model.proofs.small_example.Goals as goal

pub returns : goal.returns
returns c = small_example
