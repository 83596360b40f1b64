use Rattle.std.proofs.Common.{◌+◌, true, false, not, [], ◌∷◌, sym, ap, ◌∙◌, arith}
use Rattle.std.proofs.lemmas.Bool.{eq-eqb, ne_eqb}
use Rattle.model.specs.Clusterings.{stretch}
use Rattle.clustering.proofs.Writes.{further, overfull, ended, left}
use Rattle.clustering.proofs.Steps.{next_cell, no_cell}
use Rattle.clustering.proofs.single_cells.SingleCellsRowBoxes.push_row.Goals as goal
use Rattle.clustering.proofs.single_cells.SingleCellsRowBoxes.push_row.Goals.{then-wanted-ne0+in_ok-push, else-wanted-ne0}

pub returns-in_err-push : goal.returns-in_err-push
returns-in_err-push c =
    let is = ap not (sym (ne_eqb _ 0 c.if-wanted-ne0.true)) ∙ c.wanted_row-wanted-items.ensures.wanted c.loop-x.x (omega arith) in
    let e = next_cell c.args.cells.now c.args.y c.loop-x.x true is (omega arith) in
    overfull c.loop-x.invariant (stretch c.loop-x.x (c.loop-x.x + 1) c.args.y ∷ []) _ e (rw c.stretch.ensures at c.in_err-push.ensures.written) _ c.from_residual.ensures.0

pub loop-x-preserved : goal.loop-x-preserved
loop-x-preserved c =
    let known = c.wanted_row-wanted-items.ensures.wanted c.loop-x.x (omega arith) in
    elim c.if-wanted-ne0.branch [
      | then-wanted-ne0+in_ok-push w ↦
          let e = next_cell c.args.cells.now c.args.y c.loop-x.x true (ap not (sym (ne_eqb _ 0 w.if-wanted-ne0.true)) ∙ known) (omega arith) in
          simp w.boxes-is (further c.loop-x.invariant (stretch c.loop-x.x (c.loop-x.x + 1) c.args.y ∷ []) _ e (rw w.stretch.ensures at w.in_ok-push.ensures.written))
      | else-wanted-ne0 w ↦
          let e = next_cell c.args.cells.now c.args.y c.loop-x.x false (ap not (sym (eq-eqb _ 0 w.if-wanted-ne0.false)) ∙ known) (omega arith) in
          simp w.boxes-is (left c.loop-x.invariant e)
    ]

pub returns : goal.returns
returns c = ended c.loop-x.invariant (no_cell c.args.cells.now c.args.y c.loop-x.x (omega arith))
