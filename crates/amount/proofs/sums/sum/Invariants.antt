use Rattle.std.proofs.Common.{◌≡◌, ◌≤◌, length, take}
use Rattle.amount.specs.Additions.{sum}
use Rattle.amount.proofs.sums.sum.Given as goal

abbrev pub invariant-loop-amount : goal.invariant-loop-amount
invariant-loop-amount g l = (l.amount-index ≤ length l.amounts) × (l.so_far ≡ sum g.V.Amount.addition (take l.amount-index l.amounts))
