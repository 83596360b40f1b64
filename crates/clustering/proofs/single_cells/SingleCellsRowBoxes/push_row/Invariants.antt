use Rattle.clustering.specs.Rows.{cells_in}
use Rattle.clustering.proofs.Writes.{UnderWay}
use Rattle.clustering.proofs.Steps.{cells_from}
use Rattle.clustering.proofs.single_cells.SingleCellsRowBoxes.push_row.Given as goal

abbrev pub invariant-loop-x : goal.invariant-loop-x
invariant-loop-x l = UnderWay l.initial.boxes (cells_in l.cells l.y) l.boxes (cells_from l.cells l.y l.x)
