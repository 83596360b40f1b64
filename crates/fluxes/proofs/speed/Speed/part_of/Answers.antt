use Rattle.std.proofs.Common.{◌≡◌, rules, ◌*◌, ◌^◌, ◌≤◌, ℤ, pos, negsuc, ◌*ℤ◌, nat_abs, lit<, arith, w64, SFits}
use lib.Signed.{nat_abs-le}
use mir.Syntax.{w128}
use Rattle.std.proofs.lemmas.Int.{to_z-of_z, int_wrap_fits, fits_signed_mul, unsigned_abs-mul}
use Rattle.std.proofs.lemmas.Nat.{mul-le}
use Rattle.interfaces.specs.Whole.{floor_div}
use Rattle.amount.specs.VolumesLemmas.{volume_eq}
use Rattle.fluxes.proofs.speed.Speed.part_of.Goals as goal
use Rattle.fluxes.proofs.speed.Speed.part_of.Goals.{After-div_euclid}

wholes_fit : (z : ℤ) → nat_abs z ≤ 128 * 2 ^ 63 → SFits w64 (floor_div z (pos 256))
wholes_fit (pos n) small = record { sfits = omega arith }
wholes_fit (negsuc n) small = record { sfits = omega arith }

module _ (c : After-div_euclid) where
  units_within : nat_abs c.args.units ≤ 2 ^ 63
  units_within = nat_abs-le c.args.units (c.ranges.units).sfits

  part : c.div_euclid.result ≡ floor_div (c.args.self.parts *ℤ c.args.units) (pos 256)
  part =
      let units = c.ranges.units in
      let product : SFits w128 (c.args.self.parts *ℤ c.args.units) = fits_signed_mul w128 c.args.self.parts c.args.units 128 (2 ^ 63) c.args.self.range units_within (lit< tt) in
      grind (arith, to_z-of_z)

  part_fits : SFits w64 c.div_euclid.result
  part_fits =
      rw part (wholes_fit (c.args.self.parts *ℤ c.args.units)
      (omega (arith, unsigned_abs-mul c.args.self.parts c.args.units, mul-le (nat_abs c.args.self.parts) (nat_abs c.args.units) 128 (2 ^ 63) c.args.self.range units_within)))

pub overflow_cast-result : goal.overflow_cast-result
overflow_cast-result c = let fits = part_fits c in search rules

pub returns : goal.returns
returns c =
    let w = (goal.at.returns c).After-div_euclid in
    let e = part w in
    let fits = part_fits w in
    volume_eq _ _ (grind (arith, to_z-of_z, int_wrap_fits))
