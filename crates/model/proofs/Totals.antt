-- The sum over a sheet is the sum over its levels, rows and cells. Assumes nothing.
use Rattle.std.proofs.Common.{◌≡◌, ℕ, zero, suc, ◌+◌, List, map, sym, refl, ap, ◌∙◌, ap₂, add-one, arith}
use Rattle.std.specs.List.{range_with_len, flat_map}
use Rattle.std.proofs.lemmas.List.FromFn.{map-range_with_len_more}
use Rattle.amount.specs.Additions.{Addition, Sums, sum as list_sum}
use Rattle.amount.proofs.Totals.{sum-append, sum-push}
use Rattle.grid.specs.declared.size.Size.{Size}
use Rattle.grid.specs.Sizes.{level_width, level_height, row_sheet, level_sheet, sheet}
use Rattle.grid.specs.Hierarchies.{Hierarchy, leaf}
use Rattle.grid.proofs.Joins.{joined-push}
use Rattle.model.specs.Fields.{Fields}
use Rattle.model.specs.Sums.{gate, sum, area}
use Rattle.model.specs.Total.{level_total, composite_total}
use Rattle.model.proofs.Sums.{sum_same, sum_swap, sum_first}

module _ {A : Type 0} (G : Addition A) (laws : Sums G) where
  open G use {◌⊕◌}

  infixl 60 ◌⊕◌
  sum-map : (f : ℕ → A) (n : ℕ) → list_sum G (map f (range_with_len 0 n)) ≡ sum G n f
  sum-map f zero = refl
  sum-map f (suc n) =
      ap (λ k. list_sum G (map f (range_with_len 0 k))) (sym (add-one n))
      ∙ (ap (list_sum G) (map-range_with_len_more f 0 n n (omega arith)) ∙ (sum-push G laws (map f (range_with_len 0 n)) (f n) ∙ ap (λ z. z ⊕ f n) (sum-map f n)))

  sum-joined : (f : ℕ → List A) (n : ℕ) → list_sum G (flat_map f (range_with_len 0 n)) ≡ sum G n (λ k. list_sum G (f k))
  sum-joined f zero = refl
  sum-joined f (suc n) =
      ap (list_sum G) (joined-push f n) ∙ (sum-append G laws (flat_map f (range_with_len 0 n)) (f n) ∙ ap (λ z. z ⊕ list_sum G (f n)) (sum-joined f n))

  level_sum : (s : Size) (f : ℕ → ℕ → ℕ → A) (l : ℕ) → list_sum G (level_sheet s f l) ≡ area G (level_width s l) (level_height s l) (f l)
  level_sum s f l =
      sum-joined (row_sheet s f l) (level_height s l)
      ∙ (sum_same G laws (level_height s l) _ _ (λ y. sum-map (λ x. f l x y) (level_width s l))
      ∙ sym (sum_swap G laws (level_width s l) (level_height s l) (f l)))

  levels_sum : (M : Hierarchy) (d l : ℕ) (u : Fields A) → composite_total G M d l u ≡ sum G d (λ k. level_total G M (l + k) (u (l + k)))
  unfolding composite_total
  levels_sum M zero l u = refl
  levels_sum M (suc d) l u =
      ap₂ ◌⊕◌
      (ap (λ k. level_total G M k (u k)) (let e : l ≡ l + 0 = omega arith in e))
      (levels_sum M d (suc l) u ∙ sum_same G laws d _ _ (λ k. ap (λ n. level_total G M n (u n)) (let e : suc l + k ≡ l + suc k = omega arith in e)))
      ∙ sym (sum_first G laws d (λ k. level_total G M (l + k) (u (l + k))))

  -- the sheet of what live uncovered cells hold sums to the composite total
  pub sheet_total : (M : Hierarchy) (u : Fields A)
      → list_sum G (sheet M.size (λ l x y. gate G (leaf M l x y) (u l x y))) ≡ composite_total G M M.size.levels 0 u
  unfolding level_total
  sheet_total M u =
      let f : ℕ → ℕ → ℕ → A = λ l x y. gate G (leaf M l x y) (u l x y) in
      sum-joined (level_sheet M.size f) M.size.levels
      ∙ (sum_same G laws M.size.levels _ _ (λ l. level_sum M.size f l ∙ ap (λ n. level_total G M n (u n)) (let e : l ≡ 0 + l = omega arith in e))
      ∙ sym (levels_sum M M.size.levels 0 u))
