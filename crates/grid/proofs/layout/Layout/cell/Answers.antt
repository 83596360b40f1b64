use Rattle.std.proofs.Common.{rules}
use Rattle.grid.proofs.Finds.{find_map_gives}
use Rattle.grid.proofs.Levels.{CellOf, cell_of_levels}
use Rattle.grid.proofs.layout.Layout.cell.Goals as goal

pub returns : goal.returns
returns c =
    cell_of_levels c.args.self.now.size c.args.index c.find_map.result
    (find_map_gives c.args.self.now.size.levels _ (λ l. CellOf c.args.self.now.size l c.args.index) (λ a r q k. search rules) (λ l r lt k. search rules) c.find_map.result c.find_map.ensures.runs)
