-- Sheets and the fields that they are read as. Assumes nothing.
use Rattle.std.proofs.Common.{◌≡◌, ℕ, ◌<◌, true, false, ◌&&◌, eqb, ◌⊎◌, List, length, get_or, set, replicate, sym, refl, ap, ◌∙◌, inl, inr, ⊎_elim, arith}
use Rattle.std.proofs.lemmas.List.{get_or-set_same, get_or-set_other, get_or-replicate}
use Rattle.std.proofs.lemmas.Bool.{and_from, and_left, and_right, eq-eqb, ne_eqb, cond-true, cond-false, cases_Bool, cases_eq}
use Rattle.amount.specs.Additions.{Addition}
use Rattle.grid.specs.declared.size.Size.{Size}
use Rattle.grid.specs.Sizes.{in_mesh, sheet_length, index, sheet}
use Rattle.grid.proofs.Sheets.{is_sheet, index_below}
use Rattle.grid.proofs.Indices.{in_mesh_parts, in_mesh_from, index_once}
use Rattle.model.specs.Fields.{Fields, write, fields_of}
use Rattle.model.specs.Pour.{added}

-- fields that are equal at each cell are equal
pub fields_eq : {A : Type 0} (u v : Fields A) → ((l x y : ℕ) → u l x y ≡ v l x y) → u ≡ v
fields_eq u v e = λ t l x y. e l x y t

module _ {A : Type 0} (s : Size) (z : A) where
  pub field_in : (sheet : List A) (l x y : ℕ) → in_mesh s l x y ≡ true → fields_of s z sheet l x y ≡ get_or sheet (index s l x y) z
  unfolding fields_of
  field_in sheet l x y e = cond-true (in_mesh s l x y) _ _ e

  pub field_out : (sheet : List A) (l x y : ℕ) → in_mesh s l x y ≡ false → fields_of s z sheet l x y ≡ z
  unfolding fields_of
  field_out sheet l x y e = cond-false (in_mesh s l x y) _ _ e

  -- a whole sheet is the sheet of the fields that it is read as
  pub sheet_of_fields : (xs : List A) → length xs ≡ sheet_length s → xs ≡ sheet s (fields_of s z xs)
  sheet_of_fields xs long =
      is_sheet s (fields_of s z xs) z xs long (λ l x y ll lx ly. sym (field_in xs l x y (in_mesh_from s l x y ll lx ly)))

  -- a sheet of zeros is read as zero everywhere
  pub fields_of_zeros : (n : ℕ) → n ≡ sheet_length s → fields_of s z (replicate n z) ≡ (λ l x y. z)
  fields_of_zeros n e =
      fields_eq _ _ (λ l x y. ⊎_elim
      (λ here.
      let p = in_mesh_parts s l x y here in
      field_in (replicate n z) l x y here
      ∙ get_or-replicate n (index s l x y) z z (let b = index_below s l x y p.0 p.1 p.2 in omega arith))
      (λ out. field_out (replicate n z) l x y out)
      (cases_Bool (in_mesh s l x y)))

-- the cell (k, i, j) is the cell (l, x, y)
abbrev SameCell : (k i j l x y : ℕ) → Type 0
SameCell k i j l x y = (k ≡ l) × (i ≡ x) × (j ≡ y)

same_cell : (k i j l x y : ℕ) → SameCell k i j l x y ⊎ (SameCell k i j l x y → ⊥)
same_cell k i j l x y =
    ⊎_elim
    (λ a. ⊎_elim
    (λ b. ⊎_elim (λ c. inl (a, b, c)) (λ c. inr (λ e. c e.2)) (cases_eq j y))
    (λ b. inr (λ e. b e.1))
    (cases_eq i x))
    (λ a. inr (λ e. a e.0))
    (cases_eq k l)

-- fields with an amount added at one cell: there the sum stands, and elsewhere what stood
module _ {A : Type 0} (G : Addition A) (l x y : ℕ) (a : A) (u : Fields A) where
  pub added_here : write l (added G x y a (u l)) u l x y ≡ G.◌⊕◌ (u l x y) a
  unfolding write added
  added_here =
      ap (λ f. f x y) (cond-true (eqb l l) (added G x y a (u l)) (u l) (eq-eqb l l refl))
      ∙ cond-true (eqb x x && eqb y y) _ _ (and_from _ _ (eq-eqb x x refl) (eq-eqb y y refl))

  pub added_elsewhere : (k i j : ℕ) → (SameCell k i j l x y → ⊥) → write l (added G x y a (u l)) u k i j ≡ u k i j
  unfolding write added
  added_elsewhere k i j other =
      ⊎_elim
      (λ e.
      let misses : (eqb i x && eqb j y) ≡ false =
      ⊎_elim (λ p. and_right (eqb i x) (eqb j y) (ne_eqb j y (λ q. other (e, p, q)))) (λ p. and_left (eqb i x) (eqb j y) (ne_eqb i x p)) (cases_eq i x) in
      ap (λ f. f i j) (cond-true (eqb k l) (added G x y a (u l)) (u k) (eq-eqb k l e))
      ∙ (cond-false (eqb i x && eqb j y) (G.◌⊕◌ (u l i j) a) (u l i j) misses ∙ ap (λ n. u n i j) (sym e)))
      (λ ne. ap (λ f. f i j) (cond-false (eqb k l) (added G x y a (u l)) (u k) (ne_eqb k l ne)))
      (cases_eq k l)

-- Writing one entry of a sheet adds at one cell of its fields: at each cell, by whether it is that cell, and whether it is in the mesh.
pub field_set : {A : Type 0} (G : Addition A) (s : Size) (xs : List A) → length xs ≡ sheet_length s → (l x y : ℕ) → in_mesh s l x y ≡ true
    → (a b : A) → b ≡ G.◌⊕◌ (get_or xs (index s l x y) G.zero) a
    → fields_of s G.zero (set xs (index s l x y) b) ≡ write l (added G x y a (fields_of s G.zero xs l)) (fields_of s G.zero xs)
field_set {A = A} G s xs long l x y here a b is =
    let z : A = G.zero in
    let u : Fields A = fields_of s z xs in
    let p = in_mesh_parts s l x y here in
    let within : index s l x y < length xs = let q = index_below s l x y p.0 p.1 p.2 in omega arith in
    let changed : fields_of s z (set xs (index s l x y) b) l x y ≡ write l (added G x y a (u l)) u l x y =
    field_in s z (set xs (index s l x y) b) l x y here
    ∙ (get_or-set_same xs (index s l x y) b z within ∙ (is ∙ (ap (λ v. G.◌⊕◌ v a) (sym (field_in s z xs l x y here)) ∙ sym (added_here G l x y a u)))) in
    fields_eq _ _ (λ k i j. ⊎_elim
    (λ same. at_cell (λ n m o. fields_of s z (set xs (index s l x y) b) n m o) (λ n m o. write l (added G x y a (u l)) u n m o) k i j l x y same changed)
    (λ other.
    (⊎_elim
    (λ in'.
    field_in s z (set xs (index s l x y) b) k i j in'
    ∙ (get_or-set_other xs (index s l x y) (index s k i j) b z (λ e. other (index_once s k i j l x y in' here e)) ∙ sym (field_in s z xs k i j in')))
    (λ out. field_out s z (set xs (index s l x y) b) k i j out ∙ sym (field_out s z xs k i j out))
    (cases_Bool (in_mesh s k i j)))
    ∙ sym (added_elsewhere G l x y a u k i j other))
    (same_cell k i j l x y))
  where
    at_cell : {B : Type 0} (f g : ℕ → ℕ → ℕ → B) (k i j l x y : ℕ) → SameCell k i j l x y → f l x y ≡ g l x y → f k i j ≡ g k i j
    at_cell f g k i j l x y e q =
        ap (λ n. f n i j) e.0 ∙ (ap (λ n. f l n j) e.1 ∙ (ap (λ n. f l x n) e.2
        ∙ (q ∙ (sym (ap (λ n. g l x n) e.2) ∙ (sym (ap (λ n. g l n j) e.1) ∙ sym (ap (λ n. g n i j) e.0))))))
