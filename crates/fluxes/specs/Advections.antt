-- Advection: what the upwind cell holds moves at a constant speed. Assumes nothing.
use Rattle.std.specs.Prelude.{◌≡◌, Bool, cond, ◌&&◌, ℤ, pos, negsuc, ◌*ℤ◌, int_le}
use Rattle.amount.specs.declared.volume.Volume.{Volume}
use Rattle.amount.specs.Volumes.{volume_of, minus}
use Rattle.model.specs.declared.direction.Direction.{Direction}
use Rattle.model.specs.Interfaces.{Flux}
use Rattle.interfaces.specs.Whole.{floor_div, lies_within}
use Rattle.model.specs.Sides.{across}
use Rattle.interfaces.specs.Sides.{inward_over}
use Rattle.fluxes.specs.declared.speed.Speed.{Speed}
use Rattle.fluxes.specs.declared.advection.Advection.{Advection}

-- the speeds that there are: -128 to 128, in 256ths of a cell a step
abbrev pub is_speed : ℤ → Bool
is_speed c = lies_within (negsuc 127) (pos 128) c

-- both are speeds
abbrev pub in_range : (cx cy : ℤ) → Bool
in_range cx cy = is_speed cx && is_speed cy

-- the speed along a direction
abbrev pub speed : Advection → Direction → Speed
speed a Direction.East = a.cx
speed a Direction.North = a.cy

-- The donor is the low cell if the speed C is not negative, else the high one; what moves is C·donor / 256, rounded down.
abbrev pub moved : ℤ → (low high : Volume) → Volume
moved c low high = volume_of (floor_div (c *ℤ cond (int_le (pos 0) c) low.units high.units) (pos 256))

-- At the boundary the outer cell is empty.
abbrev pub advection : Advection → Flux Volume
advection a = record {
  interior = λ level direction low high. moved (speed a direction).parts low high;
  boundary = λ level side place steps content.
      inward_over minus (moved (speed a (across side)).parts) side (volume_of (pos 0)) content;
}

-- At speed 64, 25 moves from a low cell that holds 100, and -1 from one that holds -2, whatever the high one holds.
abbrev pub AdvectionExamples : Type 0
AdvectionExamples =
    ((high : Volume) → moved (pos 64) (volume_of (pos 100)) high ≡ volume_of (pos 25))
    × ((high : Volume) → moved (pos 64) (volume_of (negsuc 1)) high ≡ volume_of (negsuc 0))
