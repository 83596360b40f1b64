use Rattle.std.proofs.Common.{◌≡◌, ◌+◌, ◌≤◌, ◌++◌, length, string_bytes}
use Rattle.std.specs.Iterator.Adapters.{enumerate_count, enumerate_source}
use Rattle.sheets.specs.Lists.{lists}
use Rattle.mesh.specs.Reads.{state_of}
use Rattle.scenario.specs.Program.{run_lines}
use Rattle.scenario.specs.Left.{lines_left}
use Rattle.scenario.proofs.lines.run_lines.Given as goal

-- What is printed so far, and then what the lines that are left print, is what all lines print.
abbrev pub invariant-loop-index : goal.invariant-loop-index
invariant-loop-index g l =
    let G = g.V.Amount.addition in
    let K = g.V.Kind.form in
    let at = l.index-iterator in
    let sheets = lists l.contents l.before l.corrections l.marks l.wanted in
    let first = lists l.initial.contents l.initial.before l.initial.corrections l.initial.marks l.initial.wanted in
    (enumerate_count at + length (enumerate_source at).rest.now ≤ length l.fn.lines.rest.now)
    × (string_bytes l.out
    ++ run_lines G K (enumerate_count at + 2) l.phase (state_of G l.mesh sheets) sheets (lines_left (enumerate_source at))
    ≡ string_bytes l.initial.out
    ++ run_lines G K 2 l.initial.phase (state_of G l.initial.mesh first) first (lines_left l.fn.lines))
