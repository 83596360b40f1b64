use Rattle.std.proofs.Common.{◌≡◌, ◌≤◌, ℤ, pos, negsuc, ◌+ℤ◌, ◌-ℤ◌, ◌*ℤ◌, nat_abs, ap, ◌∙◌, arith, w64, SFits}
use Rattle.std.proofs.lemmas.Int.{ints, to_z-of_z}
use Rattle.interfaces.specs.Whole.{floor_div}
use Rattle.shallow_water.specs.Ranges.{Narrow}
use Rattle.shallow_water.specs.Waves.{crossing}
use Rattle.shallow_water.proofs.crossings.crossing.Goals as goal
use Rattle.shallow_water.proofs.crossings.crossing.Goals.{After-floor_div}

eighth_within : (z : ℤ) → nat_abs z ≤ 2684354560 → Narrow (floor_div z (pos 8))
eighth_within (pos n) h = omega arith
eighth_within (negsuc n) h = omega arith

module _ (c : After-floor_div) where
  eighth_is : c.floor_div.result ≡ crossing c.args.flux_low c.args.flux_high c.args.low c.args.high
  eighth_is =
      let fits_1 : SFits w64 c.get.result = record { sfits = c.get.type_inv } in
      let fits_2 : SFits w64 c.get-2.result = record { sfits = c.get-2.type_inv } in
      let fits_3 : SFits w64 c.get-3.result = record { sfits = c.get-3.type_inv } in
      let fits_4 : SFits w64 c.get-4.result = record { sfits = c.get-4.type_inv } in
      let flux : SFits w64 (c.get.result +ℤ c.get-2.result) = omega (arith, ints) in
      let four : SFits w64 (pos 4 *ℤ (c.get.result +ℤ c.get-2.result)) = omega (arith, ints) in
      let jump : SFits w64 (c.get-3.result -ℤ c.get-4.result) = omega (arith, ints) in
      let all : SFits w64 (pos 4 *ℤ (c.get.result +ℤ c.get-2.result) +ℤ (c.get-3.result -ℤ c.get-4.result)) = omega (arith, ints) in
      (simp to_z-of_z at c.floor_div.ensures) ∙ ap (λ z. floor_div z (pos 8)) (omega (arith, ints))

  eighth_narrow : Narrow c.floor_div.result
  eighth_narrow = rw eighth_is (eighth_within _ (omega (arith, ints)))

pub overflow_add-eightfold : goal.overflow_add-eightfold
overflow_add-eightfold c = omega (arith, ints)

pub overflow_cast-result : goal.overflow_cast-result
overflow_cast-result c = let narrow = eighth_narrow c in omega (arith, ints)

pub returns : goal.returns
returns c =
    let narrow = eighth_narrow c in
    let same : _ ≡ c.floor_div.result = omega (arith, ints) in
    record { value = same ∙ eighth_is c; range = rw same narrow }
