-- Waters: three signed 32-bit numbers, each of whose sums wraps at 2^32. Assumes nothing.
use Rattle.std.specs.Prelude.{ℤ, pos, ◌+ℤ◌, neg_ℤ}
use Rattle.std.specs.Int.{int_wrap, w32}
use Rattle.std.proofs.lemmas.Int.{SFits-int_wrap}
use Rattle.amount.specs.Additions.{Addition}
use Rattle.amount.specs.declared.water.Water.{Water}

-- the water of these parts, each modulo 2^32
abbrev pub water_of : ℤ → ℤ → ℤ → Water
water_of v p q = record {
  v = int_wrap w32 v;
  p = int_wrap w32 p;
  q = int_wrap w32 q;
  vfits = (SFits-int_wrap w32 v).sfits;
  pfits = (SFits-int_wrap w32 p).sfits;
  qfits = (SFits-int_wrap w32 q).sfits;
}

abbrev pub plus : Water → Water → Water
plus x y = water_of (x.v +ℤ y.v) (x.p +ℤ y.p) (x.q +ℤ y.q)

abbrev pub minus : Water → Water
minus x = water_of (neg_ℤ x.v) (neg_ℤ x.p) (neg_ℤ x.q)

abbrev pub waters : Addition Water
waters = record { zero = water_of (pos 0) (pos 0) (pos 0); ◌⊕◌ = plus }
