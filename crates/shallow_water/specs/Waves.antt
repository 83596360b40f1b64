-- Shallow water: volume and momentum carried by their own motion, with the pressure of the depth. Assumes nothing.
use Rattle.std.specs.Prelude.{◌≡◌, ℕ, ◌^◌, Bool, cond, ℤ, pos, ◌+ℤ◌, ◌-ℤ◌, ◌*ℤ◌, neg_ℤ, ◌==◌, unsigned_abs}
use Rattle.amount.specs.declared.water.Water.{Water}
use Rattle.amount.specs.Waters.{water_of, minus}
use Rattle.model.specs.declared.direction.Direction.{Direction}
use Rattle.model.specs.Interfaces.{Flux}
use Rattle.interfaces.specs.Whole.{floor_div, bring_into, lies_within}
use Rattle.model.specs.Sides.{across}
use Rattle.interfaces.specs.Sides.{inward_over}
use Rattle.shallow_water.specs.declared.along.Along.{Along}

-- the shifts S that there are: 8 to 24
abbrev pub in_range : ℤ → Bool
in_range s = lies_within (pos 8) (pos 24) s

-- 2^28
abbrev pub bound : ℤ
bound = pos 268435456

-- z brought into -2^28 to 2^28
abbrev pub bounded : ℤ → ℤ
bounded z = bring_into (neg_ℤ bound) bound z

-- Water along a direction: its volume v brought into 0 to 2^28; of its momenta, each brought into -2^28 to 2^28, n the one along the
-- direction and t the other.
abbrev pub seen : Direction → Water → Along ℤ
seen Direction.East w = record { v = bring_into (pos 0) bound w.v; n = bounded w.p; t = bounded w.q }
seen Direction.North w = record { v = bring_into (pos 0) bound w.v; n = bounded w.q; t = bounded w.p }

-- v·v·4^l / 2^S, rounded down
abbrev pub pressure : (s l : ℕ) → Along ℤ → ℤ
pressure s l u = floor_div ((u.v *ℤ u.v) *ℤ pos (4 ^ l)) (pos (2 ^ s))

-- n·n / v, rounded down, and the pressure
abbrev pub momentum_flux : (s l : ℕ) → Along ℤ → ℤ
momentum_flux s l u = floor_div (u.n *ℤ u.n) u.v +ℤ pressure s l u

-- the fluxes of a cell that has no volume
abbrev pub no_flux : Along ℤ
no_flux = record { v = pos 0; n = pos 0; t = pos 0 }

-- The fluxes of v, n and t of a cell of level l: none if it has no volume.
abbrev pub fluxes : (s l : ℕ) → Along ℤ → Along ℤ
fluxes s l u =
    cond (unsigned_abs u.v == 0)
    no_flux
    (record { v = bounded u.n; n = bounded (momentum_flux s l u); t = bounded (floor_div (u.n *ℤ u.t) u.v) })

-- (4·(F_low + F_high) + U_low - U_high) / 8, rounded down
abbrev pub crossing : (flux_low flux_high low high : ℤ) → ℤ
crossing flux_low flux_high low high = floor_div ((pos 4 *ℤ (flux_low +ℤ flux_high) +ℤ low) -ℤ high) (pos 8)

-- each part by its flux and itself
abbrev pub crossings : (flux_low flux_high low high : Along ℤ) → Along ℤ
crossings flux_low flux_high low high = record {
  v = crossing flux_low.v flux_high.v low.v high.v;
  n = crossing flux_low.n flux_high.n low.n high.n;
  t = crossing flux_low.t flux_high.t low.t high.t;
}

-- the water that is this along a direction
abbrev pub water_along : Direction → Along ℤ → Water
water_along Direction.East u = water_of u.v u.n u.t
water_along Direction.North u = water_of u.v u.t u.n

-- what moves from a low cell of level l to a high one
abbrev pub between : (s l : ℕ) → Direction → (low high : Along ℤ) → Water
between s l direction low high = water_along direction (crossings (fluxes s l low) (fluxes s l high) low high)

-- the same water moving the other way along the direction
abbrev pub mirror : Along ℤ → Along ℤ
mirror u = record { v = u.v; n = neg_ℤ u.n; t = u.t }

-- At the boundary the outer cell is the mirror of the inner one.
abbrev pub shallow_water : ℕ → Flux Water
shallow_water s = record {
  interior = λ level direction low high. between s level direction (seen direction low) (seen direction high);
  boundary = λ level side place steps content.
      inward_over minus (between s level (across side)) side (mirror (seen (across side) content)) (seen (across side) content);
}

-- With S = 8, eastward: on level 0, (6, 4, 0) moves from (32, 8, 0) to (16, 0, 0); between two cells that hold (16, 0, 0), (0, 1, 0) moves on
-- level 0, and (0, 4, 0) on level 1.
pub record ShallowWaterExamples : Type 0 where
  pub moving : (shallow_water 8).interior 0 Direction.East (water_of (pos 32) (pos 8) (pos 0)) (water_of (pos 16) (pos 0) (pos 0))
      ≡ water_of (pos 6) (pos 4) (pos 0)
  pub still : (shallow_water 8).interior 0 Direction.East (water_of (pos 16) (pos 0) (pos 0)) (water_of (pos 16) (pos 0) (pos 0))
      ≡ water_of (pos 0) (pos 1) (pos 0)
  pub still_finer : (shallow_water 8).interior 1 Direction.East (water_of (pos 16) (pos 0) (pos 0)) (water_of (pos 16) (pos 0) (pos 0))
      ≡ water_of (pos 0) (pos 4) (pos 0)
