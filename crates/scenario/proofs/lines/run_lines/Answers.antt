use Rattle.std.proofs.Common.{◌+◌, ◌++◌, string_bytes, ap, ◌∙◌, arith}
use Rattle.std.specs.Iterator.Adapters.{enumerate_source}
use Rattle.sheets.specs.Lists.{lists}
use Rattle.mesh.specs.Reads.{state_of}
use Rattle.scenario.specs.Program.{run_lines}
use Rattle.scenario.specs.Left.{lines_left}
use Rattle.scenario.proofs.Runs.{goes_on_at}
use Rattle.scenario.proofs.lines.run_lines.Goals as goal

pub loop-index-preserved : goal.loop-index-preserved
loop-index-preserved g c =
    let G = g.V.Amount.addition in
    let K = g.V.Kind.form in
    let l = c.loop-index in
    let sheets = lists l.contents l.before l.corrections l.marks l.wanted in
    let step = c.in-Some.ensures.steps in
    let shorter = (c.in-Some.ensures.goes.on tt).2 in (
      omega (arith, step.1, step.2, shorter, l.invariant.0),
      goes_on_at G K (c.in-Some.index + 2) _ l.phase (state_of G l.mesh sheets) sheets
          c.in-Some.line.now (lines_left (enumerate_source c.next.new.self)) (string_bytes l.out)
          _ c.in-Ok.said _ _ _ (omega arith) step.0 c.in-Ok.ensures c.execute-answer.ensures (omega (arith, step.1, step.2)) c.in_ok-write_answer.ensures
          ∙ (ap (λ i. string_bytes l.out ++ run_lines G K (i + 2) l.phase (state_of G l.mesh sheets) sheets (lines_left (enumerate_source l.index-iterator))) step.1
          ∙ l.invariant.1),
    )
