-- A row of a sheet of marks against the row that the layout says. Assumes nothing.
use Rattle.std.proofs.Common.{◌≡◌, ℕ, zero, suc, ◌+◌, ◌*◌, ◌/◌, ◌<◌, ◌≤◌, ◌-◌, Bool, Option, Some, None, cond, eqb, List, length, get_or, take, drop, Decides, sym, ap, ◌∙◌, subst, add-one, div-one, arith}
use Rattle.std.specs.List.{All, PartBy, slice_range}
use Rattle.std.proofs.lemmas.Bool.Decides.{Decides-like, Decides-eqb, nat_tests}
use Rattle.std.proofs.lemmas.Slice.Eq.{slice_eq-Decides}
use Rattle.std.proofs.lemmas.List.Edits.{length-between}
use Rattle.std.specs.Cmp.Lexicographic.{pointwise}
use Rattle.std.specs.Option.{option_eq}
use denote.Ref.{Bor}
use Rattle.std.proofs.lemmas.Bool.{false≢true}
use Rattle.std.proofs.lemmas.List.{get_or-take, get_or-drop, ext_get_or, length-take-le}
use Rattle.std.proofs.lemmas.List.Elements.{All-from_get_or}
use Rattle.grid.specs.declared.patch.Patch.{Patch}
use Rattle.grid.specs.declared.table.PatchTable.{PatchTable}
use Rattle.grid.specs.Boxes.{no_patch, held}
use Rattle.grid.specs.Tables.{used}
use Rattle.grid.specs.declared.layout.Layout.{Layout}
use Rattle.grid.specs.Sizes.{level_width, level_height, level_start, sheet_length, index}
use Rattle.grid.specs.Hierarchies.{mark}
use Rattle.grid.specs.Layouts.{patches_of, hierarchy_of, marks_of, RowMarked, LevelMarked}
use Rattle.grid.proofs.Cover.{length-used}
use Rattle.grid.proofs.Sheets.{length-sheet, sheet_at, is_sheet, row_fits}

-- where a row ends, of what the code computed
pub row_ends : (o : Layout) (l y f w n : ℕ) → f ≡ level_start o.size l → w ≡ level_width o.size l → n ≡ sheet_length o.size
    → l < o.size.levels → y < level_height o.size l → f + y * w + w ≤ n
row_ends o l y f w n ef ew en ll ly = simp (ef, ew, en) (row_fits o.size l y ll ly)

-- a part of a sheet against a row, by `get` and `==`
part_decides : (marks : List ℕ) (a b : ℕ) (got : Option (Bor (List ℕ))) (p : Bor (List ℕ)) (r : Bool) → a ≤ b → b ≤ length marks → PartBy (λ (x : Bor (List ℕ)). x.now) marks a b got
    → r ≡ option_eq (λ x y. pointwise eqb x.now y.now) got (Some p) → Decides r (slice_range marks a b ≡ p.now)
part_decides marks a b None p r le inside h e = absurd (false≢true (h.1 (le, inside)))
part_decides marks a b (Some x) p r le inside h e =
    Decides-like r (λ q. sym h.0.2 ∙ q) (λ q. h.0.2 ∙ q) (slice_eq-Decides Decides-eqb x.now p.now r e)

-- a part of the sheet that equals the front of the painted row
pub row_decides : (o : Layout) (marks row : List ℕ) (l y f w end front : ℕ) (got : Option (Bor (List ℕ))) (p : Bor (List ℕ)) (r : Bool) → f ≡ level_start o.size l + y * level_width o.size l → w ≡ level_width o.size l
    → f + w ≤ length marks → w ≤ length row → end ≡ f + w → front ≡ w → p.now ≡ take front row → ((x : ℕ) → x < level_width o.size l → get_or row x 0 ≡ mark (hierarchy_of o) l x y)
    → PartBy (λ (x : Bor (List ℕ)). x.now) marks f end got → r ≡ option_eq (λ x y. pointwise eqb x.now y.now) got (Some p) → Decides r (RowMarked o marks l y)
row_decides o marks row l y f w end front got p r ef ew inside long ends fronts part painted whole eq =
    let is : p.now ≡ take w row = part ∙ ap (λ n. take n row) fronts in
    let looked = subst (λ (n : ℕ). PartBy (λ (x : Bor (List ℕ)). x.now) marks f n got) ends whole in
    Decides-like r
    (λ same x lx. grind (arith, at x (omega arith), same, is, get_or-take w row x 0 (omega arith), painted x lx))
    (λ marked. ext_get_or 0 (slice_range marks f (f + w)) (take w row) (length_part ∙ sym (length-take-le w row long)) (λ x lt.
    let lx : x < w = omega (arith, length_part) in
    let lx' : x < level_width o.size l = omega arith in
    grind (arith, at x lx, marked x lx', painted x lx', get_or-take w row x 0 lx)) ∙ sym is)
    (part_decides marks f (f + w) got p r (omega arith) inside looked eq)
  where
    length_part : length (slice_range marks f (f + w)) ≡ w
    length_part = omega (arith, length-between marks f (f + w) inside)

    at : (x : ℕ) → x < w → get_or (slice_range marks f (f + w)) x 0 ≡ get_or marks (f + x) 0
    at x lx = get_or-take (f + w - f) (drop f marks) x 0 (omega arith) ∙ get_or-drop f marks x 0

module _ (o : Layout) (marks : List ℕ) where
  pub levels_of : marks ≡ marks_of o → (l : ℕ) → l < o.size.levels → LevelMarked o marks l
  levels_of e l ll y ly x lx = ap (λ xs. get_or xs (index o.size l x y) 0) e ∙ sheet_at o.size (mark (hierarchy_of o)) l x y 0 ll lx ly

  pub from_levels : length marks ≡ sheet_length o.size → ((l : ℕ) → l < o.size.levels → LevelMarked o marks l) → marks ≡ marks_of o
  from_levels long each = is_sheet o.size (mark (hierarchy_of o)) 0 marks long (λ l x y ll lx ly. each l ll y ly x lx)

  pub length_of : marks ≡ marks_of o → length marks ≡ sheet_length o.size
  length_of e = ap length e ∙ length-sheet o.size (mark (hierarchy_of o))

-- the patches of a level lie inside the rows of the level below, and of their own
used_inside : (t : PatchTable) → t.width ≤ 128 → All (λ p. (p.x0 ≤ p.x1) × (p.x1 * 2 ≤ 256)) (used t)
used_inside t w =
    All-from_get_or (λ p. (p.x0 ≤ p.x1) × (p.x1 * 2 ≤ 256)) (used t) no_patch (λ i lt.
    let lt' : i < t.count = omega (arith, length-used t) in
    let q = t.inside i lt' in
    let P : Patch → Type 0 = λ p. (p.x0 ≤ p.x1) × (p.x1 * 2 ≤ 256) in
    subst P (sym (get_or-take t.count t.patches i no_patch lt')) (omega arith, omega arith))

pub patches_inside : (o : Layout) (l : ℕ) → All (λ p. (p.x0 ≤ p.x1) × (p.x1 * 2 ≤ 256)) (patches_of o l)
patches_inside o zero = λ k d lt. absurd (omega arith)
patches_inside o (suc zero) = used_inside o.first (omega arith)
patches_inside o (suc (suc zero)) = used_inside o.second (omega arith)
patches_inside o (suc (suc (suc l))) = λ k d lt. absurd (omega arith)

-- the mark of a cell, as it is painted
pub painted_mark : (o : Layout) (l x y bare : ℕ) → bare ≡ cond (eqb l 0) 1 0 → x < level_width o.size l → y < level_height o.size l
    → cond (held (patches_of o (l + 1)) (x / 1) y) 2 (cond (held (patches_of o l) (x / 2) (y / 2)) 1 bare) ≡ mark (hierarchy_of o) l x y
painted_mark o zero x y bare e lx ly = rw (div-one, e) (grind (arith, nat_tests))
painted_mark o (suc l) x y bare e lx ly = rw (add-one, div-one, e) (grind (arith, nat_tests))
