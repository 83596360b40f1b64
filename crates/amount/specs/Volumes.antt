-- Volumes: signed 64-bit numbers whose sums wrap at 2^64. Assumes nothing.
use Rattle.std.specs.Prelude.{ℤ, pos, ◌+ℤ◌, neg_ℤ}
use Rattle.std.specs.Int.{int_wrap, w64}
use Rattle.std.proofs.lemmas.Int.{SFits-int_wrap}
use Rattle.amount.specs.Additions.{Addition}
use Rattle.amount.specs.declared.volume.Volume.{Volume}

-- the volume of z units: z itself where it lies from -2^63 to 2^63 - 1, else what is left of it modulo 2^64
abbrev pub volume_of : ℤ → Volume
volume_of z = record { units = int_wrap w64 z; fits = (SFits-int_wrap w64 z).sfits }

abbrev pub plus : Volume → Volume → Volume
plus x y = volume_of (x.units +ℤ y.units)

abbrev pub minus : Volume → Volume
minus x = volume_of (neg_ℤ x.units)

abbrev pub volumes : Addition Volume
volumes = record { zero = volume_of (pos 0); ◌⊕◌ = plus }
