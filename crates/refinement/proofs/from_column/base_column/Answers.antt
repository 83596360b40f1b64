use Rattle.std.proofs.Common.{sym, arith, pow_mono}
use native.Mathlib.Nat.{div-eq_of_lt}
use Rattle.refinement.proofs.from_column.base_column.Goals as goal

pub returns-else-level-lt64 : goal.returns-else-level-lt64
returns-else-level-lt64 c =
    sym (div-eq_of_lt (omega (arith, pow_mono c.if-level-lt64.false)))
