use Rattle.model.specs.Clusterings.{runs}
use Rattle.clustering.proofs.row_runs.RowRunsClustering.cluster.Goals as goal

pub returns : goal.returns
unfolding runs
returns c = c.cluster_rows.ensures
