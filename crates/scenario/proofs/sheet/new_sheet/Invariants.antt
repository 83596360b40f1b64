use Rattle.std.proofs.Common.{◌≡◌, replicate, vec_items}
use Rattle.scenario.proofs.sheet.new_sheet.Given as goal

abbrev pub invariant-loop : goal.invariant-loop
invariant-loop g l = vec_items l.sheet ≡ replicate l.counter l.value
