use Rattle.model.proofs.Clusterings.{clusterings_lawful}
use Rattle.model.proofs.clusterings_lawful.Goals as goal

pub returns : goal.returns
returns c = clusterings_lawful
