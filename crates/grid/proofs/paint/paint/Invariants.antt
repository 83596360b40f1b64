use Rattle.std.proofs.Common.{◌≡◌, ℕ, ◌/◌, cond, get_or, take}
use Rattle.grid.specs.Boxes.{held}
use Rattle.grid.specs.Marks.{byte_of}
use Rattle.grid.proofs.paint.paint.Given as goal

abbrev pub invariant-loop-patch : goal.invariant-loop-patch
invariant-loop-patch l = (k : ℕ) → get_or l.row k 0 ≡ cond (held (take l.patch-index l.patches) (k / l.scale) l.y) (byte_of l.mark) (get_or l.initial.row k 0)
