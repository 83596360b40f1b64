-- One level of a pour on sheets. Assumes nothing.
use Rattle.std.proofs.Common.{◌≡◌, ℕ, suc, ◌+◌, ◌-◌, ◌*◌, ◌^◌, ◌<◌, Bool, true, false, cond, ◌&&◌, eqb, ltb, List, length, get_or, set, Some, None, sym, refl, ap, ◌∙◌, pow-suc, add-one, arith}
use Rattle.std.proofs.lemmas.Bool.{and_parts, ltb-true}
use Rattle.std.proofs.lemmas.Bool.Decides.{nat_tests}
use Rattle.amount.specs.Additions.{Addition}
use Rattle.grid.specs.declared.layout.Layout.{Layout}
use Rattle.grid.specs.declared.place.Place.{Place}
use Rattle.grid.specs.declared.size.Size.{Size}
use Rattle.grid.specs.Cells.{place, four, children_of}
use Rattle.grid.specs.Sizes.{level_width, level_height, in_mesh, sheet_length, index}
use Rattle.grid.specs.Hierarchies.{Hierarchy, mark}
use Rattle.grid.specs.Layouts.{hierarchy_of, marks_of}
use Rattle.grid.proofs.Sheets.{sheet_at, index_below}
use Rattle.grid.proofs.Indices.{in_mesh_parts, in_mesh_from}
use Rattle.model.specs.Fields.{Fields, write, fields_of}
use Rattle.model.specs.Pour.{added, pour}
use Rattle.model.proofs.Sheets.{field_set}

-- the mark of a covered cell is 2, and no other cell's is
covered_byte : (covered live : Bool) → eqb (cond covered 2 (cond live 1 0)) 2 ≡ covered
covered_byte true live = refl
covered_byte false true = refl
covered_byte false false = refl

module _ {A : Type 0} (G : Addition A) (M : Hierarchy) where
  -- a level of a pour, of n levels
  level_of : (n l x y : ℕ) (a : A) (u : Fields A) → l < n → pour G M (n - l) l x y a u
      ≡ (let here : Fields A = write l (added G x y a (u l)) u in cond (M.covered l x y) (pour G M (n - (l + 1)) (l + 1) (2 * x) (2 * y) a here) here)
  unfolding pour
  level_of n l x y a u lt =
      let e : n - l ≡ suc (n - (l + 1)) = omega arith in
      ap (λ d. pour G M d l x y a u) e
      ∙ ap (λ k. let here : Fields A = write l (added G x y a (u l)) u in cond (M.covered l x y) (pour G M (n - (l + 1)) k (2 * x) (2 * y) a here) here) (sym (add-one l))

  -- no level is left
  pub pour_all : (d l x y : ℕ) (a : A) (u : Fields A) → d ≡ 0 → u ≡ pour G M d l x y a u
  unfolding pour
  pour_all d l x y a u e = sym (ap (λ n. pour G M n l x y a u) e)

-- what is known of a value that was given, and of an index
given : {A : Type 0} (b : Bool) (x y : A) → Some x ≡ cond b (Some y) None → (b ≡ true) × (x ≡ y)
given true x y e = (refl, cc)
given false x y e = cc

abbrev pub FoundAt : (s : Size) (l : ℕ) (p : Place) (i : ℕ) → Type 0
FoundAt s l p i = Some i ≡ cond (in_mesh s l p.x p.y) (Some (index s l p.x p.y)) None

pub found : (s : Size) (l : ℕ) (p : Place) (i : ℕ) → FoundAt s l p i → (in_mesh s l p.x p.y ≡ true) × (i ≡ index s l p.x p.y) × (i < sheet_length s)
found s l p i e =
    let g = given _ _ _ e in
    let parts = in_mesh_parts s l p.x p.y g.0 in
    (g.0, g.1, omega (arith, g.1, index_below s l p.x p.y parts.0 parts.1 parts.2))

-- An amount is added at the cell p of level l, whose index is i, which leaves the contents ys. The byte there is 2 or not. Where it is,
-- the pour goes on at the south-west child.
pub level_is : {A : Type 0} (G : Addition A) (o : Layout) {marks : List ℕ} → marks ≡ marks_of o → (xs : List A) → length xs ≡ sheet_length o.size
    → (l : ℕ) (p : Place) (i : ℕ) → FoundAt o.size l p i → (a : A) {ys : List A} → ys ≡ set xs i (G.◌⊕◌ (get_or xs i G.zero) a)
    → (b : Bool) → b ≡ eqb (get_or marks i 0) 2 → l < o.size.levels
    → cond b (pour G (hierarchy_of o) (o.size.levels - (l + 1)) (l + 1) (2 * p.x) (2 * p.y) a (fields_of o.size G.zero ys)) (fields_of o.size G.zero ys)
    ≡ pour G (hierarchy_of o) (o.size.levels - l) l p.x p.y a (fields_of o.size G.zero xs)
level_is G o {marks} marked xs long l p i at a {ys} ys_is b b_is lt =
    let M = hierarchy_of o in
    let f = found o.size l p i at in
    let parts = in_mesh_parts o.size l p.x p.y f.0 in
    let byte = ap (λ ms. get_or ms i 0) marked ∙ (ap (λ n. get_or (marks_of o) n 0) f.1 ∙ sheet_at o.size (mark M) l p.x p.y 0 parts.0 parts.1 parts.2) in
    let covered : b ≡ M.covered l p.x p.y = b_is ∙ (ap (λ v. eqb v 2) byte ∙ covered_byte _ _) in
    let written = ap (fields_of o.size G.zero) (ys_is ∙ ap (λ n. set xs n (G.◌⊕◌ (get_or xs n G.zero) a)) f.1) ∙ field_set G o.size xs long l p.x p.y f.0 a _ refl in
    ap (λ c. cond c (pour G M (o.size.levels - (l + 1)) (l + 1) (2 * p.x) (2 * p.y) a (fields_of o.size G.zero ys)) (fields_of o.size G.zero ys)) covered
    ∙ (ap (λ u. cond (M.covered l p.x p.y) (pour G M (o.size.levels - (l + 1)) (l + 1) (2 * p.x) (2 * p.y) a u) u) written
    ∙ sym (level_of G M o.size.levels l p.x p.y a (fields_of o.size G.zero xs) lt))

-- the first of the children of a cell, where it has children
pub child_is : (s : Size) (l : ℕ) (p : Place) (q : Place × Place × Place × Place) → Some q ≡ children_of s l p
    → (q.0 ≡ place (2 * p.x) (2 * p.y)) × (in_mesh s (l + 1) q.0.x q.0.y ≡ true)
child_is s l p q e =
    let g = given (in_mesh s l p.x p.y && ltb (l + 1) s.levels) q (four p) e in
    let sw : q.0 ≡ place (2 * p.x) (2 * p.y) = ap (λ (t : Place × Place × Place × Place). t.0) g.1 in
    let parts = and_parts _ _ g.0 in
    let at = in_mesh_parts s l p.x p.y parts.0 in
    let w : level_width s (l + 1) ≡ level_width s l * 2 = ap (λ n. s.width * 2 ^ n) (add-one l) ∙ (ap (λ n. s.width * n) (pow-suc 2 l) ∙ omega arith) in
    let h : level_height s (l + 1) ≡ level_height s l * 2 = ap (λ n. s.height * 2 ^ n) (add-one l) ∙ (ap (λ n. s.height * n) (pow-suc 2 l) ∙ omega arith) in
    let x : q.0.x ≡ 2 * p.x = ap (λ (t : Place). t.x) sw in
    let y : q.0.y ≡ 2 * p.y = ap (λ (t : Place). t.y) sw in
    (sw, in_mesh_from s (l + 1) q.0.x q.0.y (ltb-true (l + 1) s.levels parts.1) (omega arith) (omega arith))

-- a cell of the mesh that has no children is of the last level
pub childless : (s : Size) (l : ℕ) (p : Place) → in_mesh s l p.x p.y ≡ true → None ≡ children_of s l p → s.levels - (l + 1) ≡ 0
childless s l p here e = grind (arith, nat_tests)
