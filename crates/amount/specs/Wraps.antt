-- Numbers that wrap at a width are a commutative group, whatever the width. Assumes nothing.
use Rattle.std.specs.Prelude.{◌≡◌, ◌^◌, ◌<◌, ℤ, pos, ◌+ℤ◌, neg_ℤ}
use Rattle.std.proofs.Math.Path.{PathP}
use Rattle.std.proofs.Common.{sym, ap, ◌∙◌}
use mathlib.Core.HLevel.{is_prop→PathP}
use Rattle.std.proofs.Math.Bridge.{le_prop}
use Rattle.std.specs.Int.Signed.{mag}
use Rattle.std.proofs.Math.IntN.{+ℤ_assoc, +ℤ_comm, +ℤ_idr, +ℤ_invr}
use mir.Val.{hbits}
use Rattle.std.specs.Int.{int_wrap, Width}
use Rattle.std.proofs.lemmas.Int.{int_wrap_fits, int_wrap-add_left, int_wrap-add_right}

module _ (w : Width) where
  pub wraps_assoc : (a b c : ℤ) → int_wrap w (int_wrap w (a +ℤ b) +ℤ c) ≡ int_wrap w (a +ℤ int_wrap w (b +ℤ c))
  wraps_assoc a b c = int_wrap-add_left w (a +ℤ b) c ∙ ap (int_wrap w) (+ℤ_assoc a b c) ∙ sym (int_wrap-add_right w a (b +ℤ c))

  pub wraps_comm : (a b : ℤ) → int_wrap w (a +ℤ b) ≡ int_wrap w (b +ℤ a)
  wraps_comm a b = ap (int_wrap w) (+ℤ_comm a b)

  pub wraps_neutral : (a : ℤ) → mag a < 2 ^ hbits w → int_wrap w (a +ℤ int_wrap w (pos 0)) ≡ a
  wraps_neutral a fits = int_wrap-add_right w a (pos 0) ∙ ap (int_wrap w) (+ℤ_idr a) ∙ int_wrap_fits w a (record { sfits = fits })

  pub wraps_inverse : (a : ℤ) → int_wrap w (a +ℤ int_wrap w (neg_ℤ a)) ≡ int_wrap w (pos 0)
  wraps_inverse a = int_wrap-add_right w a (neg_ℤ a) ∙ ap (int_wrap w) (+ℤ_invr a)

  -- that a number fits has one proof at most
  pub fits_path : {a b : ℤ} (e : a ≡ b) (f : mag a < 2 ^ hbits w) (g : mag b < 2 ^ hbits w) → PathP (λ i. mag (e i) < 2 ^ hbits w) f g
  fits_path e f g = is_prop→PathP (λ i. mag (e i) < 2 ^ hbits w) (λ i. le_prop) f g
