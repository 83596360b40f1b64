use Rattle.std.proofs.Common.{true, false, not, sym, ap, ◌∙◌, arith}
use Rattle.std.proofs.lemmas.Bool.{eq-eqb, ne_eqb}
use Rattle.clustering.specs.Rows.{run_before}
use Rattle.clustering.proofs.Writes.{further, overfull, left}
use Rattle.clustering.proofs.Steps.{next_run, last_run}
use Rattle.clustering.proofs.row_runs.RowRunsRowBoxes.push_row.Goals as goal
use Rattle.clustering.proofs.row_runs.RowRunsRowBoxes.push_row.Goals.{then-wanted-ne0, else-wanted-ne0+in_ok-push_run}

pub loop-x-preserved : goal.loop-x-preserved
loop-x-preserved c =
    let known = c.wanted_row-wanted-items.ensures.wanted c.loop-x.x (omega arith) in
    elim c.if-wanted-ne0.branch [
      | then-wanted-ne0 w ↦
          let e = next_run c.args.cells.now c.args.y c.loop-x.x c.loop-x.first true (ap not (sym (ne_eqb _ 0 w.if-wanted-ne0.true)) ∙ known) (omega arith) in
          simp (w.boxes-is, w.first-is, w.or-first.ensures) (left c.loop-x.invariant e)
      | else-wanted-ne0+in_ok-push_run w ↦
          let e = next_run c.args.cells.now c.args.y c.loop-x.x c.loop-x.first false (ap not (sym (eq-eqb _ 0 w.if-wanted-ne0.false)) ∙ known) (omega arith) in
          simp (w.boxes-is, w.first-is) (further c.loop-x.invariant (run_before c.loop-x.x c.args.y c.loop-x.first) _ e w.in_ok-push_run.ensures)
    ]

pub returns-in_err-push_run : goal.returns-in_err-push_run
returns-in_err-push_run c =
    let is = ap not (sym (eq-eqb _ 0 c.if-wanted-ne0.false)) ∙ c.wanted_row-wanted-items.ensures.wanted c.loop-x.x (omega arith) in
    let e = next_run c.args.cells.now c.args.y c.loop-x.x c.loop-x.first false is (omega arith) in
    overfull c.loop-x.invariant (run_before c.loop-x.x c.args.y c.loop-x.first) _ e c.in_err-push_run.ensures _ c.from_residual.ensures.0

pub returns : goal.returns
returns c = (left c.loop-x.invariant (last_run c.args.cells.now c.args.y c.loop-x.x c.loop-x.first (omega arith))).ends _ _ c.push_run-2.ensures
