-- The contents of live uncovered cells, by their marks. Assumes nothing.
use Rattle.std.proofs.Common.{◌≡◌, ℕ, ◌+◌, ◌<◌, Bool, true, false, cond, not, ◌&&◌, eqb, List, length, get_or, take, sym, refl, ap, ◌∙◌, arith}
use Rattle.std.proofs.lemmas.List.{get_or_default}
use Rattle.amount.specs.Additions.{Addition, Sums, sum}
use Rattle.amount.proofs.Totals.{sum_more}
use Rattle.grid.specs.declared.layout.Layout.{Layout}
use Rattle.grid.specs.Sizes.{sheet_length, sheet}
use Rattle.grid.specs.Hierarchies.{leaf, mark}
use Rattle.grid.specs.Layouts.{hierarchy_of, marks_of}
use Rattle.grid.proofs.Sheets.{length-sheet, sheet_at, cell_at}
use Rattle.grid.proofs.Indices.{in_mesh_from}
use Rattle.model.specs.Fields.{fields_of}
use Rattle.model.specs.Sums.{gate}
use Rattle.model.proofs.Sheets.{field_in}

-- what each cell counts for: the content of a leaf, else nothing
abbrev pub counted : {A : Type 0} → Addition A → Layout → List A → ℕ → ℕ → ℕ → A
counted G o contents l x y = gate G (leaf (hierarchy_of o) l x y) (fields_of o.size G.zero contents l x y)

-- the mark of a leaf is 1, and no other cell's is
leaf_byte : (covered live : Bool) → eqb (cond covered 2 (cond live 1 0)) 1 ≡ (live && not covered)
leaf_byte true true = refl
leaf_byte true false = refl
leaf_byte false true = refl
leaf_byte false false = refl

-- The content of the cell that stands at an index is added if its byte is 1.
pub counts_more : {A : Type 0} (G : Addition A) → Sums G → (o : Layout) {marks : List ℕ} → marks ≡ marks_of o → (contents : List A)
    → length contents ≡ sheet_length o.size → (i : ℕ) → i < length contents → (b : Bool) → b ≡ eqb (get_or marks i 0) 1
    → G.◌⊕◌ (sum G (take i (sheet o.size (counted G o contents)))) (gate G b (get_or contents i G.zero))
    ≡ sum G (take (i + 1) (sheet o.size (counted G o contents)))
counts_more G laws o marked contents long i within b b_is =
    let all = sheet o.size (counted G o contents) in
    let cell = cell_at o.size i (omega arith) in
    let byte = ap (λ ms. get_or ms i 0) marked ∙ (ap (λ n. get_or (marks_of o) n 0) cell.is ∙ sheet_at o.size (mark (hierarchy_of o)) cell.l cell.x cell.y 0 cell.in_levels cell.in_columns cell.in_rows) in
    let content = ap (λ n. get_or contents n G.zero) cell.is
    ∙ sym (field_in o.size G.zero contents cell.l cell.x cell.y (in_mesh_from o.size cell.l cell.x cell.y cell.in_levels cell.in_columns cell.in_rows)) in
    let entry = ap (λ n. get_or all n G.zero) cell.is ∙ sheet_at o.size (counted G o contents) cell.l cell.x cell.y G.zero cell.in_levels cell.in_columns cell.in_rows in
    let same : gate G b (get_or contents i G.zero) ≡ get_or all i G.zero =
    ap (gate G b) content ∙ (ap (λ t. gate G t (fields_of o.size G.zero contents cell.l cell.x cell.y)) (b_is ∙ (ap (λ v. eqb v 1) byte ∙ leaf_byte _ _)) ∙ sym entry) in
    let inside : i < length all = omega (arith, length-sheet o.size (counted G o contents)) in
    sum_more G laws all i _ inside (same ∙ get_or_default all i G.zero _ inside)
