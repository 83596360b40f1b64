-- The laws of volumes. Assumes nothing.
use Rattle.std.specs.Prelude.{◌≡◌}
use Rattle.std.specs.Int.{w64}
use Rattle.amount.specs.Additions.{Sums}
use Rattle.amount.specs.Volumes.{plus, minus, volumes}
use Rattle.amount.specs.Wraps.{wraps_assoc, wraps_comm, wraps_neutral, wraps_inverse, fits_path}
use Rattle.amount.specs.declared.volume.Volume.{Volume}

-- volumes of as many units are equal
pub volume_eq : (x y : Volume) → x.units ≡ y.units → x ≡ y
volume_eq x y e = λ i. record { units = e i; fits = fits_path w64 e x.fits y.fits i }

pub volume_sums : Sums volumes
volume_sums = record {
  assoc = λ x y z. volume_eq _ _ (wraps_assoc w64 x.units y.units z.units);
  comm = λ x y. volume_eq _ _ (wraps_comm w64 x.units y.units);
  neutral = λ x. volume_eq _ _ (wraps_neutral w64 x.units x.fits);
}

pub volume_inverse : (x : Volume) → plus x (minus x) ≡ volumes.zero
volume_inverse x = volume_eq _ _ (wraps_inverse w64 x.units)
