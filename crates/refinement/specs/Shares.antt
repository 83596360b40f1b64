-- Even shares: they fit where the whole does, and the four of them add up to it. Assumes nothing.
use Rattle.std.specs.Prelude.{◌≡◌, ℕ, ◌^◌, ◌<◌, ℤ, pos, negsuc, ◌+ℤ◌, FitsSigned}
use Rattle.std.proofs.Common.{ap, ◌∙◌, arith}
use Rattle.std.specs.Int.Signed.{mag}
use mir.Val.{hbits}
use Rattle.std.specs.Int.{int_rem_euclid, int_wrap, Width}
use Rattle.std.proofs.lemmas.Int.{ints, int_wrap_fits, int_wrap-add_left, int_wrap-add_right}
use Rattle.std.proofs.lemmas.Bool.Decides.{nat_tests}
use Rattle.refinement.specs.Prolongation.{spare, share}

pub spare_is : (z : ℤ) → int_rem_euclid z (pos 4) ≡ spare z
spare_is (pos a) = omega (arith, ints)
spare_is (negsuc a) = omega (arith, ints)

pub shares_add_up : (z : ℤ) → share 0 z +ℤ share 1 z +ℤ share 2 z +ℤ share 3 z ≡ z
shares_add_up (pos a) = grind (arith, ints, nat_tests)
shares_add_up (negsuc a) = grind (arith, ints, nat_tests)

pub share_fits : (w : Width) (k : ℕ) (z : ℤ) → FitsSigned w z → FitsSigned w (share k z)
share_fits w k (pos a) fits = record { sfits = grind (arith, ints, nat_tests) }
share_fits w k (negsuc a) fits = record { sfits = grind (arith, ints, nat_tests) }

-- wrapped sums of wrapped shares
pub shares_wrap : (w : Width) (z : ℤ) → mag z < 2 ^ hbits w
    → int_wrap w (int_wrap w (int_wrap w (int_wrap w (share 0 z) +ℤ int_wrap w (share 1 z)) +ℤ int_wrap w (share 2 z)) +ℤ int_wrap w (share 3 z)) ≡ z
shares_wrap w z fits =
    simp (int_wrap-add_left, int_wrap-add_right) (ap (int_wrap w) (shares_add_up z) ∙ int_wrap_fits w z (record { sfits = fits }))
