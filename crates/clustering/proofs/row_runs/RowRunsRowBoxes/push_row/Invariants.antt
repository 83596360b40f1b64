use Rattle.clustering.specs.Rows.{runs_in}
use Rattle.clustering.proofs.Writes.{UnderWay}
use Rattle.clustering.proofs.Steps.{runs_from}
use Rattle.clustering.proofs.row_runs.RowRunsRowBoxes.push_row.Given as goal

abbrev pub invariant-loop-x : goal.invariant-loop-x
invariant-loop-x l = UnderWay l.initial.boxes (runs_in l.cells l.y) l.boxes (runs_from l.cells l.y l.x l.first)
