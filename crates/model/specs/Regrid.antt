-- A regrid: other covered cells on one level, and the contents of their children.
use Rattle.std.specs.Prelude.{ℕ, suc, ◌/◌, Bool, true, false, cond, List, ◌==◌}
use Rattle.amount.specs.Additions.{Addition}
use Rattle.grid.specs.declared.patch.Patch.{Patch}
use Rattle.grid.specs.Hierarchies.{Patches, Hierarchy}
use Rattle.model.specs.Fields.{Fields, write}
use Rattle.model.specs.Interfaces.{Children, child}

-- the patches with those of level k replaced
unfoldable pub with_patches : ℕ → List Patch → Patches → Patches
with_patches k ps patches j = cond (j == k) ps (patches j)

-- the hierarchy with other covered cells on level l
abbrev pub relaid : Hierarchy → ℕ → (ℕ → ℕ → Bool) → Hierarchy
relaid M l chosen = record { size = M.size; covered = λ k x y. cond (k == l) (chosen x y) (M.covered k x y) }

module _ {A : Type 0} (G : Addition A) where
  -- The content of a child, by whether its parent was covered before and whether it is after: kept, the split's, or zero.
  abbrev pub regridded : (before after : Bool) (kept new : A) → A
  regridded true true kept new = kept
  regridded false true kept new = new
  regridded true false kept new = G.zero
  regridded false false kept new = kept

  -- the contents after a regrid of level l that leaves the chosen cells covered, the split asked from the contents
  unfoldable pub regrid : Hierarchy → ℕ → (ℕ → ℕ → Bool) → (A → Children A) → Fields A → Fields A
  regrid M l chosen split u =
      write (suc l)
      (λ x y. regridded (M.covered l (x / 2) (y / 2)) (chosen (x / 2) (y / 2)) (u (suc l) x y) (child (split (u l (x / 2) (y / 2))) x y))
      u
