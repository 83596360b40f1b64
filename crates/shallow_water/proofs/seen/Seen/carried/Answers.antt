use Rattle.std.proofs.Common.{◌≡◌, ◌≢◌, ℕ, zero, suc, ◌+◌, ◌*◌, ◌<◌, ◌≤◌, ℤ, pos, negsuc, ◌*ℤ◌, ◌<ℤ◌, nat_abs, ap, ◌∙◌, to_z, of_z, arith, w64, SFits, lit<}
use Rattle.std.proofs.lemmas.Nat.{div_below, mul-le}
use Rattle.std.proofs.lemmas.Int.{ints, to_z-of_z, fits_signed_mul, unsigned_abs-mul}
use Rattle.interfaces.specs.Whole.{floor_div}
use Rattle.shallow_water.specs.Ranges.{Small}
use Rattle.shallow_water.proofs.seen.Seen.carried.Goals as goal

-- a quotient of a number from -k·d to k·d
floor_within : (z : ℤ) (d k : ℕ) → 0 < d → nat_abs z ≤ k * d → nat_abs (floor_div z (pos d)) ≤ k
floor_within (pos a) d k h l = omega (arith, div_below a d (k + 1) h (omega arith))
floor_within (negsuc a) d k h l = div_below a d k h l

product_within : (a b : ℤ) → Small a → Small b → nat_abs (a *ℤ b) ≤ 72057594037927936
product_within a b small_a small_b = omega (arith, unsigned_abs-mul a b, mul-le (nat_abs a) (nat_abs b) 268435456 268435456 small_a small_b)

product_fits : (a b : ℤ) → Small a → Small b → SFits w64 (a *ℤ b)
product_fits a b small_a small_b = fits_signed_mul w64 a b 268435456 268435456 small_a small_b (lit< tt)

carried_within : (a b v : ℤ) → Small a → Small b → pos 0 <ℤ v → nat_abs (floor_div (a *ℤ b) v) ≤ 72057594037927936
carried_within a b (pos zero) h l p = absurd p.lt
carried_within a b (pos (suc d)) h l p = floor_within (a *ℤ b) (suc d) 72057594037927936 (omega arith) (omega (arith, product_within a b h l))
carried_within a b (negsuc d) h l p = absurd p.lt

pub overflow_mul-product : goal.overflow_mul-product
overflow_mul-product c =
    let fits_a : SFits w64 c.get.result = record { sfits = c.get.type_inv } in
    let fits_b : SFits w64 c.get-2.result = record { sfits = c.get-2.type_inv } in
    simp to_z-of_z (product_fits c.get.result c.get-2.result c.get.ensures.range c.get-2.ensures.range)

pub returns-clause-value : goal.returns-clause-value
returns-clause-value c =
    let fits_a : SFits w64 c.get.result = record { sfits = c.get.type_inv } in
    let fits_b : SFits w64 c.get-2.result = record { sfits = c.get-2.type_inv } in
    let fits_v : SFits w64 c.get-volume.result = record { sfits = c.get-volume.type_inv } in
    let fits = product_fits c.get.result c.get-2.result c.get.ensures.range c.get-2.ensures.range in
    let r : SFits w64 c.floor_div.result = record { sfits = c.floor_div.type_inv } in
    let value : to_z w64 (of_z w64 c.floor_div.result) ≡ floor_div (c.get.result *ℤ c.get-2.result) c.get-volume.result = to_z-of_z w64 _ r ∙ (simp to_z-of_z at c.floor_div.ensures) in
    let some : c.get-volume.result ≢ pos 0 = λ e. c.if-volume-eq0.false (ap (of_z w64) e) in
    let both : (c.get-volume.result ≢ pos 0) × (to_z w64 (of_z w64 c.floor_div.result) ≡ floor_div (c.get.result *ℤ c.get-2.result) c.get-volume.result) = (some, value) in
    rw (← c.self.view_is) (rw (c.get.ensures.value, c.get-2.ensures.value, c.get-volume.ensures.value) at both)

pub returns-clause-range : goal.returns-clause-range
returns-clause-range c =
    let fits_a : SFits w64 c.get.result = record { sfits = c.get.type_inv } in
    let fits_b : SFits w64 c.get-2.result = record { sfits = c.get-2.type_inv } in
    let fits_v : SFits w64 c.get-volume.result = record { sfits = c.get-volume.type_inv } in
    let fits = product_fits c.get.result c.get-2.result c.get.ensures.range c.get-2.ensures.range in
    let r : SFits w64 c.floor_div.result = record { sfits = c.floor_div.type_inv } in
    let value : to_z w64 (of_z w64 c.floor_div.result) ≡ floor_div (c.get.result *ℤ c.get-2.result) c.get-volume.result = to_z-of_z w64 _ r ∙ (simp to_z-of_z at c.floor_div.ensures) in
    rw value (carried_within c.get.result c.get-2.result c.get-volume.result c.get.ensures.range c.get-2.ensures.range (omega (arith, ints)))
