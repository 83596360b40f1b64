use Rattle.std.proofs.Common.{◌≡◌, ◌-◌, ◌*◌, cond, ◌&&◌, ltb, leb, length, get_or, take, drop, replicate, ap, ◌∙◌, arith}
use Rattle.std.proofs.lemmas.Nat.{mul-le}
use Rattle.grid.specs.Boxes.{no_patch}
use Rattle.grid.specs.Marks.{byte_of}
use Rattle.grid.proofs.Paints.{filled, patch_more}
use Rattle.grid.proofs.paint.paint.Goals as goal
use Rattle.grid.proofs.paint.paint.Goals.{then-contains, else-contains}

pub loop-patch-preserved : goal.loop-patch-preserved
loop-patch-preserved c k =
    let ps = c.args.patches.now in
    let i = c.loop-patch.patch-index in
    let s = c.args.scale in
    let v = byte_of c.args.mark in
    let row = c.loop-patch.row in
    let p = get_or ps i no_patch in
    let inside = c.requires.inside i no_patch c.loop-patch-test.true in
    let written : get_or c.if-contains.row k 0 ≡ cond (c.contains.result && (leb (p.x0 * s) k && ltb k (p.x1 * s))) v (get_or row k 0) = elim c.if-contains.branch [
      | then-contains w ↦ rw (w.row-is, w.if-contains.true)
          (filled row w.fill.new.self (p.x0 * s) (p.x1 * s) v k (mul-le p.x0 s p.x1 s inside.0 (omega arith)) (omega arith)
          (w.fill.ensures.after (λ y e. e) ∙ ap (λ b. replicate (length (take (p.x1 * s - p.x0 * s) (drop (p.x0 * s) row))) b) w.from.ensures))
      | else-contains w ↦ rw (w.row-is, w.if-contains.false)
    ] in
    patch_more ps i s c.args.y v k (get_or c.args.row.now k 0) (get_or row k 0) (get_or c.if-contains.row k 0) c.loop-patch-test.true c.requires.scale.0 (c.loop-patch.invariant k)
    (written ∙ ap (λ b. cond (b && (leb (p.x0 * s) k && ltb k (p.x1 * s))) v (get_or row k 0)) c.contains.ensures.value)
