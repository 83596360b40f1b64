-- A newly opened mesh and its sheets. Assumes nothing.
use Rattle.std.proofs.Common.{◌≡◌, ℕ, zero, suc, ◌+◌, ◌*◌, ◌<◌, ◌≤◌, cond, eqb, ltb, List, [], ◌∷◌, length, get_or, replicate, sym, refl, ap, ◌∙◌, ⊎_elim, arith}
use Rattle.std.specs.List.{FoldsTo}
use Rattle.std.proofs.lemmas.Bool.{cond-true, cond-false, lt-ltb, le-ltb, eq-eqb, ne_eqb, cases_eq}
use Rattle.grid.specs.declared.layout.Layout.{Layout}
use Rattle.grid.specs.declared.size.Size.{Size}
use Rattle.grid.specs.Sizes.{level_start, sheet_length, index, sheet}
use Rattle.grid.specs.Tables.{used}
use Rattle.grid.specs.Layouts.{patches_of}
use Rattle.grid.proofs.Sheets.{is_sheet, starts_mono, row_ends_in, level_fits}

pub no_patches : (o : Layout) → used o.first ≡ [] → used o.second ≡ [] → patches_of o ≡ (λ k. [])
no_patches o first second = λ i k. none_at k i
  where
    none_at : (k : ℕ) → patches_of o k ≡ []
    none_at zero = refl
    none_at (suc zero) = first
    none_at (suc (suc zero)) = second
    none_at (suc (suc (suc k))) = refl

-- A closure that gives one value at each call, and stays as it is, fills a list with it.
module _ {P A : Type 0} (R : P → A → P → Type 0) (f : P) (v : A) (each : (x : A) (q : P) → R f x q → (x ≡ v) × (q ≡ f)) where
  copies : (xs : List A) (last : P) → FoldsTo R f xs last → xs ≡ replicate (length xs) v
  copies [] last h = refl
  copies (x ∷ xs) last h =
      let s = each x h.0 h.1 in
      let rest = copies xs last (rw s.1 at h.2) in
      cc

  pub filled : (xs : List A) → (last : P) × FoldsTo R f xs last → {n : ℕ} → length xs ≡ n → xs ≡ replicate n v
  filled xs ran long = copies xs ran.0 ran.1 ∙ ap (λ n. replicate n v) long

-- the base cells stand first, and after them all others
pub base_marked : (s : Size) (xs : List ℕ) → 1 ≤ s.levels → length xs ≡ sheet_length s
    → ((k : ℕ) → k < length xs → get_or xs k 0 ≡ cond (ltb k (s.width * s.height)) 1 0) → xs ≡ sheet s (λ l x y. cond (eqb l 0) 1 0)
base_marked s xs some long each =
    is_sheet s (λ l x y. cond (eqb l 0) 1 0) 0 xs long (λ l x y ll lx ly.
    let row = row_ends_in s l y ly in
    let below = level_fits s l ll in
    each (index s l x y) (omega arith)
    ∙ ⊎_elim
    (λ z.
    let base : level_start s (l + 1) ≡ s.width * s.height = ap (λ m. level_start s (m + 1)) z ∙ omega arith in
    cond-true _ 1 0 (lt-ltb (index s l x y) (s.width * s.height) (omega arith)) ∙ sym (cond-true (eqb l 0) 1 0 (eq-eqb l 0 z)))
    (λ nz.
    let after = starts_mono s 0 l (omega arith) in
    cond-false _ 1 0 (le-ltb (index s l x y) (s.width * s.height) (omega arith)) ∙ sym (cond-false (eqb l 0) 1 0 (ne_eqb l 0 nz)))
    (cases_eq l 0))
