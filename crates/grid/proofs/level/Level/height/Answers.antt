use Rattle.std.proofs.Common.{arith}
use Rattle.grid.proofs.Levels.{shifted}
use Rattle.grid.proofs.level.Level.height.Goals as goal

pub returns : goal.returns
returns c = shifted c.args.self.layout.now.size.height c.args.self.number (omega arith) (omega arith) (omega arith)
