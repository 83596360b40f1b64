-- The patches that hold a cell, and what the invariant of a layout says of every level. Assumes nothing.
use Rattle.std.proofs.Common.{◌≡◌, ℕ, zero, suc, ◌+◌, ◌<◌, ◌≤◌, true, List, length, get_or, Decides, sym, refl, ap, ◌∙◌, arith}
use Rattle.std.specs.List.{HoldsAt}
use Rattle.std.proofs.lemmas.Bool.Decides.{Decides-by_or, nat_tests}
use Rattle.std.proofs.lemmas.Bool.{true≢false}
use Rattle.std.proofs.lemmas.List.{get_or-take, length-take-le}
use Rattle.grid.specs.declared.patch.Patch.{Patch}
use Rattle.grid.specs.declared.table.PatchTable.{PatchTable}
use Rattle.grid.specs.declared.layout.Layout.{Layout}
use Rattle.grid.specs.Boxes.{no_patch, holds, held}
use Rattle.grid.specs.Tables.{used}
use Rattle.grid.specs.Sizes.{level_width, level_height}
use Rattle.grid.specs.Hierarchies.{live}
use Rattle.grid.specs.Layouts.{hierarchy_of}

pub holds_parts : (p : Patch) (x y : ℕ) → holds p x y ≡ true → (p.x0 ≤ x) × (x < p.x1) × (p.y0 ≤ y) × (y < p.y1)
holds_parts p x y e = (grind (arith, nat_tests), grind (arith, nat_tests), grind (arith, nat_tests), grind (arith, nat_tests))

-- a list holds a cell exactly when one of its patches does
pub held_decides : (ps : List Patch) (x y : ℕ) → Decides (held ps x y) ((k : ℕ) × (k < length ps) × HoldsAt (λ p. holds p x y ≡ true) ps k)
held_decides ps x y = Decides-by_or (λ p. holds p x y) (λ p. holds p x y ≡ true) (λ qs. held qs x y) (λ p. (λ e. e, λ e. e)) refl (λ _ _. refl) ps

pub length-used : (t : PatchTable) → length (used t) ≡ t.count
length-used t = length-take-le t.count t.patches (omega (arith, t.whole, t.few))

pub held_some : (t : PatchTable) (x y : ℕ) → held (used t) x y ≡ true → (i : ℕ) × (i < t.count) × (holds (get_or t.patches i no_patch) x y ≡ true)
held_some t x y e =
    let p = (held_decides (used t) x y).0 e in
    let i = p.0 in
    let li : i < t.count = omega (arith, p.1, length-used t) in
    (i, li, ap (λ q. holds q x y) (sym (get_or-take t.count t.patches i no_patch li)) ∙ p.2 no_patch)

-- no cell outside the grid is held
pub held_inside : (t : PatchTable) (x y : ℕ) → held (used t) x y ≡ true → (x < t.width) × (y < t.height) × (0 < t.count)
held_inside t x y e =
    let s = held_some t x y e in
    let p = holds_parts _ x y s.2 in
    let q = t.inside s.0 s.1 in
    (omega (arith, p.1, q.1), omega (arith, p.3, q.3), omega (arith, s.1))

module _ (o : Layout) where
  -- only cells of the grid, and of levels that have a next one, are covered
  pub covered_inside : (l x y : ℕ) → (hierarchy_of o).covered l x y ≡ true
      → (x < level_width o.size l) × (y < level_height o.size l) × (l + 1 < o.size.levels)
  covered_inside zero x y e = let h = held_inside o.first x y e in (omega arith, omega arith, grind (arith, o.nofirst))
  covered_inside (suc zero) x y e = let h = held_inside o.second x y e in (omega arith, omega arith, grind (arith, o.nosecond))
  covered_inside (suc (suc l)) x y e = absurd (true≢false (sym e))

  -- a covered cell is live
  pub covered_live : (l x y : ℕ) → (hierarchy_of o).covered l x y ≡ true → live (hierarchy_of o) l x y ≡ true
  covered_live zero x y e = let g = covered_inside 0 x y e in grind (arith, nat_tests)
  covered_live (suc zero) x y e =
      let g = covered_inside 1 x y e in
      o.nested (record { x = x; y = y; u = x; v = y; is_held = e; near_x = (omega arith, omega arith); near_y = (omega arith, omega arith); in_x = omega arith; in_y = omega arith })
  covered_live (suc (suc l)) x y e = absurd (true≢false (sym e))
