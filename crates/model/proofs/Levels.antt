-- One level: what its uncovered cells gain.
use Rattle.std.proofs.Common.{◌≡◌, ℕ, suc, Bool, true, false, cond, not, ◌&&◌, sym, refl, ap, ◌∙◌, ap₂}
use Rattle.grid.specs.Sizes.{level_width, level_height}
use Rattle.grid.specs.Hierarchies.{Hierarchy, live, leaf}
use Rattle.model.specs.Fields.{Field}
use Rattle.model.specs.Sums.{gate, area}
use Rattle.model.specs.Total.{level_total}
use Rattle.model.specs.Groups.{Amounts, Group, minus}
use Rattle.model.specs.Nesting.{Nested}
use Rattle.model.specs.Interfaces.{Flux, Children}
use Rattle.model.specs.Step.{Faces, gain, halves, flux_registers, reflux, restrict, fluxes, advance, boundary_inward}
use Rattle.model.proofs.Sums.{left_neutral, pairs, sum_same, sum_swap}
use Rattle.model.proofs.Groups.{minus_plus}
use Rattle.model.proofs.Doubles.{area-plus}
use Rattle.model.proofs.Faces.{edge, lines_balance}
use Rattle.model.proofs.Halves.{edge_halves, edge_plus}
use Rattle.model.proofs.Grids.{width_suc, height_suc, row_line, column_line}

-- what crosses into the live cells of level l over faces with just one live side
unfoldable pub edges : {A : Type 0} → Amounts A → Hierarchy → ℕ → Faces A → A
edges G M l f =
    G.addition.◌⊕◌ (edge G (level_width M.size l) (level_height M.size l) (λ x y. live M l x y) (λ x y. f.over_x x y))
    (edge G (level_height M.size l) (level_width M.size l) (λ y x. live M l x y) (λ y x. f.over_y x y))

module _ {A : Type 0} (G : Amounts A) (laws : Group G) where
  open G use {addition, negation as neg}
  open addition use {zero as nought, ◌⊕◌}
  open laws use {sums, inverse as opposite}
  open sums use {assoc, comm, neutral as right_neutral}

  infixl 60 ◌⊕◌
  four : (b p q s t p' q' s' t' : A)
      → b ⊕ (minus G p q ⊕ minus G s t) ⊕ (minus G p' q' ⊕ minus G s' t')
      ≡ b ⊕ (minus G (p ⊕ p') (q ⊕ q') ⊕ minus G (s ⊕ s') (t ⊕ t'))
  four b p q s t p' q' s' t' =
      assoc _ _ _ ∙ ap (λ z. b ⊕ z) (pairs addition sums _ _ _ _ ∙ ap₂ ◌⊕◌ (minus_plus G laws p q p' q') (minus_plus G laws s t s' t'))

  -- one cell, by whether it is live and whether it is covered
  cell : (lv cv : Bool) (c b p q s t p' q' s' t' : A)
      → gate addition (lv && not cv)
      (cond cv c (cond (lv && not cv)
      (cond lv (b ⊕ (minus G p q ⊕ minus G s t)) b ⊕ (minus G p' q' ⊕ minus G s' t'))
      (cond lv (b ⊕ (minus G p q ⊕ minus G s t)) b)))
      ≡ gate addition (lv && not cv) b
      ⊕ (gate addition (lv && not cv) (minus G (p ⊕ p') (q ⊕ q')) ⊕ gate addition (lv && not cv) (minus G (s ⊕ s') (t ⊕ t')))
  cell true true c b p q s t p' q' s' t' = sym (left_neutral addition sums _ ∙ left_neutral addition sums _)
  cell true false c b p q s t p' q' s' t' = four b p q s t p' q' s' t'
  cell false cv c b p q s t p' q' s' t' = sym (left_neutral addition sums _ ∙ left_neutral addition sums _)

  assemble : (B X Y EX EY RX RY DX DY : A) → X ⊕ EX ≡ RX ⊕ DX → Y ⊕ EY ≡ RY ⊕ DY
      → B ⊕ (X ⊕ Y) ⊕ (EX ⊕ EY) ≡ B ⊕ (RX ⊕ RY) ⊕ (DX ⊕ DY)
  assemble B X Y EX EY RX RY DX DY p q =
      assoc _ _ _ ∙ ap (λ z. B ⊕ z) (pairs addition sums X Y EX EY ∙ ap₂ ◌⊕◌ p q ∙ pairs addition sums RX DX RY DY) ∙ sym (assoc _ _ _)

module _ {A : Type 0} (G : Amounts A) (laws : Group G) (M : Hierarchy) where
  open G use {addition, negation as neg}
  open addition use {zero as nought, ◌⊕◌}
  open laws use {sums, inverse as opposite}
  open sums use {assoc, comm, neutral as right_neutral}

  infixl 60 ◌⊕◌
  -- the same of level l + 1, as faces of level l with just one covered side
  edges_finer : (l : ℕ) (f : Faces A)
      → edges G M (suc l) f
      ≡ edge G (level_width M.size l) (level_height M.size l) (λ x y. M.covered l x y) (λ x y. (halves addition f).over_x x y)
      ⊕ edge G (level_height M.size l) (level_width M.size l) (λ y x. M.covered l x y) (λ y x. (halves addition f).over_y x y)
  unfolding edges halves
  edges_finer l f =
      ap₂ (λ w h. edge G w h (λ x y. live M (suc l) x y) (λ x y. f.over_x x y) ⊕ edge G h w (λ y x. live M (suc l) x y) (λ y x. f.over_y x y))
      (width_suc M l) (height_suc M l)
      ∙ ap₂ ◌⊕◌ (edge_halves G laws (level_width M.size l) (level_height M.size l) (λ x y. M.covered l x y) (λ x y. f.over_x x y))
      (edge_halves G laws (level_height M.size l) (level_width M.size l) (λ y x. M.covered l x y) (λ y x. f.over_y x y))

  edges_both : (l : ℕ) (f g : Faces A)
      → edges G M (suc l) f ⊕ edges G M (suc l) g
      ≡ edge G (level_width M.size l) (level_height M.size l) (λ x y. M.covered l x y) (λ x y. (halves addition f).over_x x y ⊕ (halves addition g).over_x x y)
      ⊕ edge G (level_height M.size l) (level_width M.size l) (λ y x. M.covered l x y) (λ y x. (halves addition f).over_y x y ⊕ (halves addition g).over_y x y)
  edges_both l f g =
      ap₂ ◌⊕◌ (edges_finer l f) (edges_finer l g) ∙ pairs addition sums _ _ _ _ ∙ ap₂ ◌⊕◌ (edge_plus G laws _ _ _ _ _) (edge_plus G laws _ _ _ _ _)

  module _ (L : ℕ) (N : Nested M L) (F : Flux A) (split : A → Children A) (steps : ℕ) where
    pub level_balance : (l : ℕ) (cb b finer : Field A) (first second : Faces A)
        → level_total addition M l (restrict addition M l finer (reflux G M l (flux_registers G M l (fluxes G M F split steps l cb b) first second)
        (advance G M F split steps l cb b)))
        ⊕ (edges G M (suc l) first ⊕ edges G M (suc l) second)
        ≡ level_total addition M l b ⊕ boundary_inward G M F split steps l b ⊕ edges G M l (fluxes G M F split steps l cb b)
    unfolding level_total restrict reflux flux_registers advance gain boundary_inward edges
    level_balance l cb b finer first second =
        ap₂ ◌⊕◌ cells (edges_both l first second)
        ∙ assemble G laws _ _ _ _ _ _ _ _ _
        (ap₂ ◌⊕◌ (sum_swap addition sums (level_width M.size l) (level_height M.size l) _) refl
        ∙ lines_balance G laws (level_width M.size l) (level_height M.size l) (λ x y. live M l x y) (λ x y. M.covered l x y) (λ x y. own.over_x x y)
        (λ x y. (halves addition first).over_x x y ⊕ (halves addition second).over_x x y) _ _
        (λ y. row_line M L N G F split steps l cb b y))
        (lines_balance G laws (level_height M.size l) (level_width M.size l) (λ y x. live M l x y) (λ y x. M.covered l x y) (λ y x. own.over_y x y)
        (λ y x. (halves addition first).over_y x y ⊕ (halves addition second).over_y x y) _ _
        (λ x. column_line M L N G F split steps l cb b x))
      where
        own : Faces A
        own = fluxes G M F split steps l cb b

        kept : Faces A
        kept = flux_registers G M l own first second

        cells : level_total addition M l (restrict addition M l finer (reflux G M l kept (advance G M F split steps l cb b)))
            ≡ level_total addition M l b
            ⊕ (area addition (level_width M.size l) (level_height M.size l) (λ x y. gate addition (leaf M l x y)
            (minus G (own.over_x x y ⊕ kept.over_x x y) (own.over_x (suc x) y ⊕ kept.over_x (suc x) y)))
            ⊕ area addition (level_width M.size l) (level_height M.size l) (λ x y. gate addition (leaf M l x y)
            (minus G (own.over_y x y ⊕ kept.over_y x y) (own.over_y x (suc y) ⊕ kept.over_y x (suc y)))))
        cells =
            sum_same addition sums (level_width M.size l) _ _ (λ x. sum_same addition sums (level_height M.size l) _ _ (λ y.
            cell G laws (live M l x y) (M.covered l x y) _ (b x y) (own.over_x x y) (own.over_x (suc x) y) (own.over_y x y) (own.over_y x (suc y))
            (kept.over_x x y) (kept.over_x (suc x) y) (kept.over_y x y) (kept.over_y x (suc y))))
            ∙ area-plus addition sums _ _ _ _ ∙ ap (λ z. level_total addition M l b ⊕ z) (area-plus addition sums _ _ _ _)
