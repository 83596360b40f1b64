use Rattle.model.proofs.Examples.{nesting_example}
use Rattle.model.proofs.nesting_example.Goals as goal

pub returns : goal.returns
returns c = nesting_example
