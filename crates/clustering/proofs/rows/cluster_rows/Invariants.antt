use Rattle.model.specs.Clusterings.{by_rows}
use Rattle.clustering.proofs.Writes.{UnderWay}
use Rattle.clustering.proofs.Steps.{rows_from}
use Rattle.clustering.proofs.rows.cluster_rows.Given as goal

abbrev pub invariant-loop-y : goal.invariant-loop-y
invariant-loop-y g l =
    let row = g.R.RowBoxes.boxes_in l.cells in
    UnderWay l.initial.boxes (by_rows row l.cells.height 0) l.boxes (rows_from row l.cells.height l.y)
