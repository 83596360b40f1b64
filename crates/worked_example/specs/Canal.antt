-- A small canal: volumes carried east at speed 64 and fed with 40, even shares, refined from base column 3 on, patches by runs.
use Rattle.std.specs.Prelude.{◌≡◌, ℕ, List, [], ◌∷◌, ◌++◌, replicate, ℤ, pos, Ok, Err}
use Rattle.std.proofs.Common.{lit≤}
use Rattle.amount.specs.declared.volume.Volume.{Volume}
use Rattle.amount.specs.Volumes.{volume_of, volumes, minus}
use Rattle.grid.specs.Sizes.{size_of}
use Rattle.model.specs.States.{State, opened}
use Rattle.model.specs.Groups.{Amounts}
use Rattle.model.specs.Interfaces.{Flux, Children}
use Rattle.model.specs.History.{Working, Call, to_pour, to_step, to_regrid, to_audit, reported, outcome, after}
use Rattle.model.specs.Clusterings.{stretch, runs}
use Rattle.fluxes.specs.Advections.{advection}
use Rattle.fluxes.specs.Feeds.{feed}
use Rattle.refinement.specs.Prolongation.{shared, volume_share}
use Rattle.refinement.specs.Flags.{from_column}

abbrev pub amounts : Amounts Volume
amounts = record { addition = volumes; negation = minus }

-- 40 / 4^l, rounded down, is fed in on level l
abbrev pub fed : List Volume
fed = volume_of (pos 40) ∷ volume_of (pos 10) ∷ volume_of (pos 2) ∷ []

abbrev pub eastward : Flux Volume
eastward = feed volumes fed (advection (record { cx = record { parts = pos 64; range = lit≤ tt }; cy = record { parts = pos 0; range = lit≤ tt } }))

abbrev pub even : Volume → Children Volume
even = shared volume_share

-- working sheets of 20 zeros
abbrev pub zeros : Working Volume
zeros = record {
  before = replicate 20 (volume_of (pos 0));
  corrections = replicate 20 (volume_of (pos 0));
  wanted = replicate 20 0;
}

-- two pours, a regrid of level 0 and a step
abbrev pub calls : List (Call Volume)
calls =
    to_pour zeros 1 0 (volume_of (pos 100)) ∷ to_pour zeros 2 0 (volume_of (pos 10)) ∷ to_regrid zeros 0 (from_column 3) even runs
    ∷ to_step zeros eastward even ∷ []

-- no level follows level 1
abbrev pub no_such_regrid : Call Volume
no_such_regrid = to_regrid zeros 1 (from_column 3) even runs

-- the mesh after some calls
unfoldable pub canal : List (Call Volume) → State Volume
canal done = after amounts (opened volumes (size_of 4 1 2)) done

-- what a base cell holds after the calls
abbrev pub base : ℕ → ℤ
base x = ((canal calls).contents 0 x 0).units

-- The base cells end as 40, 76, 34 and 0; the second regrid is refused with 3; the audit answers 1 step, total 150, poured 110, inward 40.
pub record SmallCanal : Type 0 where
  pub patched : (canal calls).patches 1 ≡ stretch 2 4 0 ∷ []
  pub cell_0 : base 0 ≡ pos 40
  pub cell_1 : base 1 ≡ pos 76
  pub cell_2 : base 2 ≡ pos 34
  pub cell_3 : base 3 ≡ pos 0
  pub refused : (outcome amounts (canal calls) no_such_regrid).answer ≡ Err 3
  pub audit : (outcome amounts (canal (calls ++ (no_such_regrid ∷ []))) (to_audit zeros)).answer
      ≡ Ok (reported (record { steps = 1; total = volume_of (pos 150); poured = volume_of (pos 110); inward = volume_of (pos 40) }))
