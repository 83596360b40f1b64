-- Which cells are in the mesh, and that each index is that of one cell only. Assumes nothing.
use Rattle.std.proofs.Common.{◌≡◌, ℕ, ◌<◌, true, sym, ap, ◌∙◌, subst, ⊎_elim, arith}
use Rattle.std.proofs.lemmas.Nat.{same_from_place}
use Rattle.std.proofs.lemmas.Bool.Decides.{nat_tests}
use Rattle.std.proofs.lemmas.Bool.{cases_order}
use Rattle.grid.specs.declared.size.Size.{Size}
use Rattle.grid.specs.Sizes.{level_width, level_height, in_mesh, index}
use Rattle.grid.proofs.Sheets.{row_ends_in, starts_mono}

module _ (s : Size) where
  pub in_mesh_parts : (l x y : ℕ) → in_mesh s l x y ≡ true → (l < s.levels) × (x < level_width s l) × (y < level_height s l)
  in_mesh_parts l x y e = (grind (arith, nat_tests), grind (arith, nat_tests), grind (arith, nat_tests))

  pub in_mesh_from : (l x y : ℕ) → l < s.levels → x < level_width s l → y < level_height s l → in_mesh s l x y ≡ true
  in_mesh_from l x y ll lx ly = grind (arith, nat_tests)

  -- a cell of a coarser level stands before one of a finer level
  level_order : (k i j l x y : ℕ) → k < l → i < level_width s k → j < level_height s k → index s k i j < index s l x y
  level_order k i j l x y lt li lj = omega (arith, row_ends_in s k j lj, starts_mono s k l lt)

  -- distinct cells have distinct indices
  pub index_once : (k i j l x y : ℕ) → in_mesh s k i j ≡ true → in_mesh s l x y ≡ true → index s k i j ≡ index s l x y → (k ≡ l) × (i ≡ x) × (j ≡ y)
  index_once k i j l x y p q e =
      let a = in_mesh_parts k i j p in
      let b = in_mesh_parts l x y q in
      ⊎_elim
      (λ same.
      let w = level_width s l in
      let a' : i < w = subst (λ (n : ℕ). i < level_width s n) same a.1 in
      let e' : index s l i j ≡ index s l x y = ap (λ n. index s n i j) (sym same) ∙ e in
      let at = same_from_place j i y x w a' b.1 (omega arith) in
      (same, at.1, at.0))
      (⊎_elim (λ lt. absurd (omega (arith, level_order k i j l x y lt a.1 a.2))) (λ lt. absurd (omega (arith, level_order l x y k i j lt b.1 b.2))))
      (cases_order k l)
