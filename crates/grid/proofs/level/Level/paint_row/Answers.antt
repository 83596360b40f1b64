use Rattle.std.proofs.Common.{◌≡◌, ◌+◌, cond, eqb, arith}
use Rattle.std.proofs.lemmas.List.{get_or-replicate}
use Rattle.std.proofs.lemmas.Bool.Decides.{nat_tests}
use Rattle.grid.specs.Marks.{byte_of}
use Rattle.grid.proofs.Levels.{shifted}
use Rattle.grid.proofs.Rows.{patches_inside, painted_mark}
use Rattle.grid.proofs.level.Level.paint_row.Goals as goal
use Rattle.grid.proofs.level.Level.paint_row.Goals.{then-self-eq0, else-self-eq0}

pub paint-requires-clause-inside : goal.paint-requires-clause-inside
paint-requires-clause-inside c = rw (c.patches-own.ensures) (patches_inside c.args.self.layout.now c.args.self.number)

pub paint-requires-2-clause-inside : goal.paint-requires-2-clause-inside
paint-requires-2-clause-inside c = rw (c.patches-next.ensures) (λ k d lt. let p = patches_inside c.args.self.layout.now (c.args.self.number + 1) k d lt in (p.0, omega arith))

pub returns : goal.returns
returns c = λ x lx.
    let o = c.args.self.layout.now in
    let n = c.args.self.number in
    let bare : byte_of c.if-self-eq0.bare ≡ cond (eqb n 0) 1 0 = elim c.if-self-eq0.branch [
      | then-self-eq0 w ↦ rw w.bare-is (grind (arith, nat_tests))
      | else-self-eq0 w ↦ rw w.bare-is (grind (arith, nat_tests))
    ] in
    let e = painted_mark o n x c.args.y (byte_of c.if-self-eq0.bare) bare lx c.requires in
    let second = c.paint-2.ensures x in
    let first = c.paint.ensures x in
    let filled = get_or-replicate 256 x c.from-row.result 0 (omega (arith, shifted o.size.width n (omega arith) (omega arith) (omega arith))) in
    grind (arith, e, first, second, filled)
