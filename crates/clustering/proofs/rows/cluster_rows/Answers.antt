use Rattle.std.proofs.Common.{Err, refl, rules, arith}
use Rattle.clustering.proofs.Writes.{further, overfull, ended, all_written, too_many}
use Rattle.clustering.proofs.Steps.{next_row, no_row}
use Rattle.clustering.proofs.rows.cluster_rows.Goals as goal

pub loop-y-preserved : goal.loop-y-preserved
loop-y-preserved g c =
    let row = g.R.RowBoxes.boxes_in c.args.cells.now in
    further c.loop-y.invariant (row c.loop-y.y) _ (next_row row c.args.cells.now.height c.loop-y.y c.loop-y-test.true) c.in_ok-push_row.ensures

pub returns-in_err-push_row : goal.returns-in_err-push_row
returns-in_err-push_row g c =
    let row = g.R.RowBoxes.boxes_in c.args.cells.now in
    let e = next_row row c.args.cells.now.height c.loop-y.y c.loop-y-test.true in
    let over = overfull c.loop-y.invariant (row c.loop-y.y) _ e c.in_err-push_row.ensures (Err c.in_err-push_row.field-0.0) refl in
    too_many _ _ _ _ c.from_residual.ensures.0 (omega (arith, over.written))

pub returns : goal.returns
returns g c =
    let done = ended c.loop-y.invariant (no_row (g.R.RowBoxes.boxes_in c.args.cells.now) c.args.cells.now.height c.loop-y.y (omega arith)) in
    let all = all_written c.loop-y.boxes.count c.args.patches.now c.loop-y.boxes.patches.now _ done.written in
    search rules
