use Rattle.std.proofs.Common.{arith}
use Rattle.mesh.proofs.Opens.{base_marked}
use Rattle.mesh.proofs.open.mark_base.Goals as goal

pub returns : goal.returns
returns c =
    base_marked c.args.layout.now.size c.loop-index.marks c.args.layout.now.deep.0 (omega (arith, c.requires)) (λ k lk. c.loop-index.invariant k (omega arith))
