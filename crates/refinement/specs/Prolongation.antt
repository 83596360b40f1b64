-- Splits of a parent's content among its children. Assumes nothing.
use Rattle.std.specs.Prelude.{◌≡◌, ℕ, cond, ℤ, pos, negsuc, ◌+ℤ◌, ◌-ℤ◌, ◌*ℤ◌, int_lt}
use Rattle.amount.specs.Additions.{Addition}
use Rattle.amount.specs.declared.volume.Volume.{Volume}
use Rattle.amount.specs.Volumes.{volume_of}
use Rattle.amount.specs.declared.water.Water.{Water}
use Rattle.amount.specs.Waters.{water_of}
use Rattle.model.specs.Interfaces.{Children}
use Rattle.interfaces.specs.Whole.{floor_div}

-- All goes to the first child.
abbrev pub first_child : {A : Type 0} → Addition A → A → Children A
first_child G parent = record { sw = parent; se = G.zero; nw = G.zero; ne = G.zero }

-- a quarter, rounded down
abbrev pub quarter : ℤ → ℤ
quarter z = floor_div z (pos 4)

-- how many units are over once each child has a quarter: 0 to 3
abbrev pub spare : ℤ → ℤ
spare z = z -ℤ pos 4 *ℤ quarter z

-- The share of child k, counted from 0: a quarter, and one unit more for as many of the first children as units are spare.
abbrev pub share : ℕ → ℤ → ℤ
share k z = quarter z +ℤ cond (int_lt (pos k) (spare z)) (pos 1) (pos 0)

abbrev pub volume_share : ℕ → Volume → Volume
volume_share k parent = volume_of (share k parent.units)

-- each part by itself
abbrev pub water_share : ℕ → Water → Water
water_share k parent = water_of (share k parent.v) (share k parent.p) (share k parent.q)

-- the shares of the four children
abbrev pub shared : {A : Type 0} → (ℕ → A → A) → A → Children A
shared share_of parent = record { sw = share_of 0 parent; se = share_of 1 parent; nw = share_of 2 parent; ne = share_of 3 parent }

abbrev pub four_volumes : (sw se nw ne : ℤ) → Children Volume
four_volumes sw se nw ne = record { sw = volume_of sw; se = volume_of se; nw = volume_of nw; ne = volume_of ne }

-- -2 is shared as 0, 0, -1, -1; 7 as 2, 2, 2, 1; -2^63 as four times -2^61.
pub record EvenExamples : Type 0 where
  pub below : shared volume_share (volume_of (negsuc 1)) ≡ four_volumes (pos 0) (pos 0) (negsuc 0) (negsuc 0)
  pub above : shared volume_share (volume_of (pos 7)) ≡ four_volumes (pos 2) (pos 2) (pos 2) (pos 1)
  pub least : shared volume_share (volume_of (negsuc 9223372036854775807))
      ≡ four_volumes (negsuc 2305843009213693951) (negsuc 2305843009213693951) (negsuc 2305843009213693951) (negsuc 2305843009213693951)
