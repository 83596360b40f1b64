use Rattle.std.proofs.Common.{◌≡◌, ℕ, ◌*◌, ◌<◌, cond, ltb, get_or}
use Rattle.mesh.proofs.open.mark_base.Given as goal

abbrev pub invariant-loop-index : goal.invariant-loop-index
invariant-loop-index l = (k : ℕ) → k < l.index → get_or l.marks k 0 ≡ cond (ltb k (l.layout.size.width * l.layout.size.height)) 1 0
