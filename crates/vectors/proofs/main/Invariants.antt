use Rattle.std.proofs.Common.{◌+◌, ◌≤◌}
use Rattle.vectors.proofs.main.Given as goal

-- Each name is counted once.
abbrev pub invariant-loop-name : goal.invariant-loop-name
invariant-loop-name l =
    let left = goal.iterator-loop-name in
    l.passed + l.failed + left.remaining l.name-iterator ≤ left.remaining l.initial.name-iterator
