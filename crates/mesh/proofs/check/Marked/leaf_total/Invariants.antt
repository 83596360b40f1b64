use Rattle.std.proofs.Common.{◌≡◌, length, take}
use Rattle.amount.specs.Additions.{sum}
use Rattle.grid.specs.Sizes.{sheet}
use Rattle.mesh.proofs.Totals.{counted}
use Rattle.mesh.proofs.check.Marked.leaf_total.Given as goal

-- the sum of what the cells so far count for
abbrev pub invariant-loop-content : goal.invariant-loop-content
invariant-loop-content g l =
    let G = g.V.Amount.addition in
    l.total ≡ sum G (take (length l.yielded) (sheet l.self.layout.now.size (counted G l.self.layout.now l.contents)))
