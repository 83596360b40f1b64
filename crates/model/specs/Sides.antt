-- The direction across a side. Assumes nothing.
use Rattle.grid.specs.declared.side.Side.{Side}
use Rattle.grid.specs.declared.side.Side.TheVariants.{West, East, South, North}
use Rattle.model.specs.declared.direction.Direction.{Direction}

abbrev pub across : Side → Direction
across West = Direction.East
across East = Direction.East
across South = Direction.North
across North = Direction.North
