-- The lines that are still to come. Assumes nothing.
use Rattle.std.specs.Prelude.{ℕ, List}
use Rattle.scenario.specs.Program.{lines}
use Rattle.scenario.specs.declared.cut_lines.Lines.{Lines}

abbrev pub lines_left : Lines → List (List ℕ)
lines_left s = lines s.rest.now
