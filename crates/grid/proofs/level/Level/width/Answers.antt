use Rattle.std.proofs.Common.{arith}
use Rattle.grid.proofs.Levels.{shifted}
use Rattle.grid.proofs.level.Level.width.Goals as goal

pub returns : goal.returns
returns c = shifted c.args.self.layout.now.size.width c.args.self.number (omega arith) (omega arith) (omega arith)
