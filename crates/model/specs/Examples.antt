-- Two histories worked out, of whole numbers.
use Rattle.std.specs.Prelude.{◌≡◌, ℕ, ◌*◌, ◌/◌, ◌^◌, false, List, [], ◌∷◌, ◌++◌, replicate, ℤ, pos, negsuc, ◌+ℤ◌, neg_ℤ, Ok, Err, nat_le}
use Rattle.grid.specs.declared.patch.Patch.{Patch}
use Rattle.grid.specs.declared.side.Side.{Side}
use Rattle.grid.specs.declared.side.Side.TheVariants.{West, East, South, North}
use Rattle.grid.specs.Sizes.{size_of}
use Rattle.model.specs.declared.direction.Direction.{Direction}
use Rattle.model.specs.States.{State, opened}
use Rattle.model.specs.Groups.{Amounts}
use Rattle.model.specs.Interfaces.{Flux, Children}
use Rattle.model.specs.Wanted.{Flagging}
use Rattle.model.specs.History.{Working, Call, to_pour, to_step, to_regrid, to_audit, reported, outcome, after}
use Rattle.model.specs.Clusterings.{stretch, runs}

-- whole numbers as amounts
abbrev pub whole_numbers : Amounts ℤ
whole_numbers = record { addition = record { zero = pos 0; ◌⊕◌ = ◌+ℤ◌ }; negation = neg_ℤ }

-- a quarter, rounded down
unfoldable pub quarter : ℤ → ℤ
quarter (pos n) = pos (n / 4)
quarter (negsuc n) = negsuc (n / 4)

-- Of each low cell a quarter moves east, and nothing moves north.
unfoldable pub moving : Direction → ℤ → ℤ
moving Direction.East a = quarter a
moving Direction.North a = pos 0

-- Over the west side 40 comes in, divided by 4 for each level; over the east side a quarter of the cell goes out.
unfoldable pub entering : ℕ → Side → ℤ → ℤ
entering l West a = pos (40 / 4 ^ l)
entering l East a = neg_ℤ (quarter a)
entering l South a = pos 0
entering l North a = pos 0

-- the flux of both
abbrev pub eastward : Flux ℤ
eastward = record { interior = λ l d low high. moving d low; boundary = λ l s place steps a. entering l s a }

-- each child a quarter, what is left over going to the first ones
unfoldable pub even : ℤ → Children ℤ
even a = record { sw = quarter (a +ℤ pos 3); se = quarter (a +ℤ pos 2); nw = quarter (a +ℤ pos 1); ne = quarter a }

-- yes to every cell from base column n on
abbrev pub from : ℕ → Flagging ℤ
from n l x y a around = nat_le (n * 2 ^ l) x

-- yes to none
abbrev pub nowhere : Flagging ℤ
nowhere l x y a around = false

-- working sheets of n zeros
abbrev pub zeros : ℕ → Working ℤ
zeros n = record { before = replicate n (pos 0); corrections = replicate n (pos 0); wanted = replicate n 0 }

-- Two levels over 4 by 1 base cells: two pours, a regrid of level 0 and a step.
abbrev pub poured_and_stepped : List (Call ℤ)
poured_and_stepped =
    to_pour (zeros 20) 1 0 (pos 100) ∷ to_pour (zeros 20) 2 0 (pos 10) ∷ to_regrid (zeros 20) 0 (from 3) even runs
    ∷ to_step (zeros 20) eastward even ∷ []

-- no level follows level 1
abbrev pub no_such_regrid : Call ℤ
no_such_regrid = to_regrid (zeros 20) 1 (from 3) even runs

-- the mesh after some calls
unfoldable pub small_mesh : List (Call ℤ) → State ℤ
small_mesh calls = after whole_numbers (opened whole_numbers.addition (size_of 4 1 2)) calls

-- The base cells end as 40, 76, 34 and 0; the second regrid is refused with 3; the audit answers 1 step, total 150, poured 110, inward 40.
pub record SmallExample : Type 0 where
  pub patched : (small_mesh poured_and_stepped).patches 1 ≡ stretch 2 4 0 ∷ []
  pub cell_0 : (small_mesh poured_and_stepped).contents 0 0 0 ≡ pos 40
  pub cell_1 : (small_mesh poured_and_stepped).contents 0 1 0 ≡ pos 76
  pub cell_2 : (small_mesh poured_and_stepped).contents 0 2 0 ≡ pos 34
  pub cell_3 : (small_mesh poured_and_stepped).contents 0 3 0 ≡ pos 0
  pub refused : (outcome whole_numbers (small_mesh poured_and_stepped) no_such_regrid).answer ≡ Err 3
  pub audit : (outcome whole_numbers (small_mesh (poured_and_stepped ++ (no_such_regrid ∷ []))) (to_audit (zeros 20))).answer
      ≡ Ok (reported (record { steps = 1; total = pos 150; poured = pos 110; inward = pos 40 }))

-- a regrid of level l on three levels over 8 by 1 base cells
abbrev pub regrid_of : ℕ → Flagging ℤ → Call ℤ
regrid_of l flag = to_regrid (zeros 168) l flag even runs

-- level 0 refined from base column 4 on, then level 1
abbrev pub both_refined : List (Call ℤ)
both_refined = regrid_of 0 (from 4) ∷ regrid_of 1 (from 4) ∷ []

-- the patches of level k after some calls
unfoldable pub patches_after : ℕ → List (Call ℤ) → List Patch
patches_after k calls = (after whole_numbers (opened whole_numbers.addition (size_of 8 1 3)) calls).patches k

-- A regrid that flags nothing keeps the patch of level 1 that nests the patches of level 2; once those are gone, it goes too.
pub record NestingExample : Type 0 where
  pub first : patches_after 1 both_refined ≡ stretch 3 8 0 ∷ []
  pub second : patches_after 2 both_refined ≡ stretch 7 16 0 ∷ stretch 7 16 1 ∷ []
  pub kept : patches_after 1 (both_refined ++ (regrid_of 0 nowhere ∷ [])) ≡ stretch 3 8 0 ∷ []
  pub second_gone : patches_after 2 (both_refined ++ (regrid_of 1 nowhere ∷ regrid_of 0 nowhere ∷ [])) ≡ []
  pub first_gone : patches_after 1 (both_refined ++ (regrid_of 1 nowhere ∷ regrid_of 0 nowhere ∷ [])) ≡ []
