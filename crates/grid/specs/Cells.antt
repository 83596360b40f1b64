-- Neighbours, rings, parents and children of cells. Assumes nothing.
use Rattle.std.specs.Prelude.{ℕ, ◌+◌, ◌-◌, ◌*◌, ◌/◌, Bool, cond, not, ◌&&◌, Some, None, Option, ◌==◌, nat_le, nat_lt}
use Rattle.grid.specs.declared.place.Place.{Place}
use Rattle.grid.specs.declared.side.Side.{Side}
use Rattle.grid.specs.declared.side.Side.TheVariants.{West, East, South, North}
use Rattle.grid.specs.declared.size.Size.{Size}
use Rattle.grid.specs.Sizes.{level_width, level_height, in_mesh}

abbrev pub place : ℕ → ℕ → Place
place x y = record { x = x; y = y }

-- the place next to (x, y) on a side, in a grid w wide and h high; none past the edge
abbrev pub beside : (w h : ℕ) → Place → Side → Option Place
beside w h p West = cond (p.x == 0) None (Some (place (p.x - 1) p.y))
beside w h p East = cond (nat_lt (p.x + 1) w) (Some (place (p.x + 1) p.y)) None
beside w h p South = cond (p.y == 0) None (Some (place p.x (p.y - 1)))
beside w h p North = cond (nat_lt (p.y + 1) h) (Some (place p.x (p.y + 1))) None

-- the neighbour of a cell of level l; none past the edge, and none of a place that is not in the mesh
abbrev pub neighbour_of : Size → ℕ → Place → Side → Option Place
neighbour_of s l p side = cond (in_mesh s l p.x p.y) (beside (level_width s l) (level_height s l) p side) None

-- two numbers are the same or differ by one
abbrev pub near : ℕ → ℕ → Bool
near a b = nat_le a (b + 1) && nat_le b (a + 1)

-- (u, v) shares a side or a corner with (x, y). The ring of a cell is the cells of its level that do.
abbrev pub touching : (x y u v : ℕ) → Bool
touching x y u v = near x u && near y v && not (x == u && y == v)

abbrev pub parent_of : Place → Place
parent_of p = place (p.x / 2) (p.y / 2)

-- the four children on the next level, in their order: SW, SE, NW, NE
abbrev pub four : Place → Place × Place × Place × Place
four p =
    (place (2 * p.x) (2 * p.y), place (2 * p.x + 1) (2 * p.y), place (2 * p.x) (2 * p.y + 1), place (2 * p.x + 1) (2 * p.y + 1))

-- the children of a cell of level l; none on the last level, and none of a place that is not in the mesh
abbrev pub children_of : Size → ℕ → Place → Option (Place × Place × Place × Place)
children_of s l p = cond (in_mesh s l p.x p.y && nat_lt (l + 1) s.levels) (Some (four p)) None
