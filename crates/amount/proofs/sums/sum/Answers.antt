use Rattle.std.proofs.Common.{ap, ◌∙◌, arith, take_all, rules}
use Rattle.amount.specs.Additions.{sum}
use Rattle.amount.proofs.Totals.{sum_more}
use Rattle.amount.proofs.sums.sum.Goals as goal

pub loop-amount-preserved : goal.loop-amount-preserved
loop-amount-preserved g c =
    let added = rw c.loop-amount.invariant.1 at c.add-so_far.ensures in (
      omega arith,
      added ∙ sum_more g.V.Amount.addition g.met.V.Amount.sums c.args.amounts.now c.loop-amount.amount-index _ c.loop-amount-test.true (search rules),
    )

pub returns : goal.returns
returns g c = c.loop-amount.invariant.1 ∙ ap (sum g.V.Amount.addition) (take_all _ _ c.loop-amount-test.false)
