-- The laws of waters, part by part. Assumes nothing.
use Rattle.std.specs.Prelude.{◌≡◌}
use Rattle.std.specs.Int.{w32}
use Rattle.amount.specs.Additions.{Sums}
use Rattle.amount.specs.Waters.{plus, minus, waters}
use Rattle.amount.specs.Wraps.{wraps_assoc, wraps_comm, wraps_neutral, wraps_inverse, fits_path}
use Rattle.amount.specs.declared.water.Water.{Water}

-- waters of the same parts are equal
pub water_eq : (x y : Water) → x.v ≡ y.v → x.p ≡ y.p → x.q ≡ y.q → x ≡ y
water_eq x y v p q = λ i. record {
  v = v i;
  p = p i;
  q = q i;
  vfits = fits_path w32 v x.vfits y.vfits i;
  pfits = fits_path w32 p x.pfits y.pfits i;
  qfits = fits_path w32 q x.qfits y.qfits i;
}

pub water_sums : Sums waters
water_sums = record {
  assoc = λ x y z. water_eq _ _ (wraps_assoc w32 x.v y.v z.v) (wraps_assoc w32 x.p y.p z.p) (wraps_assoc w32 x.q y.q z.q);
  comm = λ x y. water_eq _ _ (wraps_comm w32 x.v y.v) (wraps_comm w32 x.p y.p) (wraps_comm w32 x.q y.q);
  neutral = λ x. water_eq _ _ (wraps_neutral w32 x.v x.vfits) (wraps_neutral w32 x.p x.pfits) (wraps_neutral w32 x.q x.qfits);
}

pub water_inverse : (x : Water) → plus x (minus x) ≡ waters.zero
water_inverse x = water_eq _ _ (wraps_inverse w32 x.v) (wraps_inverse w32 x.p) (wraps_inverse w32 x.q)
