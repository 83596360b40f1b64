use Rattle.model.specs.Clusterings.{cells}
use Rattle.clustering.proofs.single_cells.SingleCellsClustering.cluster.Goals as goal

pub returns : goal.returns
unfolding cells
returns c = c.cluster_rows.ensures
