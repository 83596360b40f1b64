-- A regrid keeps the composite total, and that each covered cell holds the sum of its children.
use Rattle.std.proofs.Common.{◌≡◌, ℕ, zero, suc, ◌+◌, ◌*◌, ◌/◌, ◌%◌, ◌<◌, ◌≤◌, Bool, true, false, cond, not, ◌&&◌, eqb, sym, refl, ap, ◌∙◌, subst, ap₂, subst₂, inl, inr, zero-le, lt_irrefl, eq-or-lt_of_le, arith}
use mathlib.Core.Bool.{false≢true}
use native.Mathlib.Nat.{suc_inj}
use native.Mathlib.Decide.{ℕ_discrete}
use Rattle.std.proofs.lemmas.Bool.{cond-true, cond-false, eq-eqb, ne_eqb}
use Rattle.amount.specs.Additions.{Addition, Sums}
use Rattle.grid.specs.Sizes.{level_width, level_height}
use Rattle.grid.specs.Hierarchies.{Hierarchy, live, leaf}
use Rattle.model.specs.Fields.{Field, Fields}
use Rattle.model.specs.Sums.{gate, area}
use Rattle.model.specs.Total.{level_total, composite_total}
use Rattle.model.specs.Nesting.{Nested}
use Rattle.model.specs.Interfaces.{Children, child, Splits}
use Rattle.model.specs.Step.{children_sum, Restricted}
use Rattle.model.specs.Regrid.{relaid, regridded, regrid}
use Rattle.model.specs.Balance.{RegridConserves}
use Rattle.model.proofs.Sums.{left_neutral, pairs, sum_same, sum-plus}
use Rattle.model.proofs.Doubles.{half_even, half_odd, sum_twice, area-plus, area_same}
use Rattle.model.proofs.Grids.{width_suc, height_suc}
use Rattle.model.proofs.Writes.{write_same, write_other}

rest_even : (i : ℕ) → 2 * i % 2 ≡ 0
rest_even i = omega arith

rest_odd : (i : ℕ) → suc (2 * i) % 2 ≡ 1
rest_odd i = omega arith

module _ {A : Type 0} (G : Addition A) (laws : Sums G) where
  open G use {zero as nought, ◌⊕◌}
  open laws use {assoc, comm, neutral as right_neutral}

  infixl 60 ◌⊕◌
  pub four_same : {a b c d a' b' c' d' : A} → a ≡ a' → b ≡ b' → c ≡ c' → d ≡ d' → a ⊕ b ⊕ c ⊕ d ≡ a' ⊕ b' ⊕ c' ⊕ d'
  four_same p q r s = ap₂ ◌⊕◌ (ap₂ ◌⊕◌ (ap₂ ◌⊕◌ p q) r) s

  -- the sum over a finer grid, four children by four
  area_twice : (w h : ℕ) (f : Field A) → area G (2 * w) (2 * h) f ≡ area G w h (children_sum G f)
  unfolding children_sum
  area_twice w h f =
      sum_twice G laws w _
      ∙ sum_same G laws w _ _ (λ x.
      ap₂ ◌⊕◌ (sum_twice G laws h _) (sum_twice G laws h _)
      ∙ sym (sum-plus G laws h _ _)
      ∙ sum_same G laws h _ _ (λ y. pairs G laws _ _ _ _ ∙ sym (assoc _ _ _)))

  children_sum-split : (q : Children A) (x y : ℕ) → children_sum G (child q) x y ≡ q.sw ⊕ q.se ⊕ q.nw ⊕ q.ne
  unfolding children_sum child
  children_sum-split q x y =
      four_same (pick (2 * x) (2 * y) 0 0 (rest_even x) (rest_even y)) (pick (suc (2 * x)) (2 * y) 1 0 (rest_odd x) (rest_even y))
      (pick (2 * x) (suc (2 * y)) 0 1 (rest_even x) (rest_odd y)) (pick (suc (2 * x)) (suc (2 * y)) 1 1 (rest_odd x) (rest_odd y))
    where
      pick : (X Y i j : ℕ) → X % 2 ≡ i → Y % 2 ≡ j
          → child q X Y ≡ cond (eqb j 0) (cond (eqb i 0) q.sw q.se) (cond (eqb i 0) q.nw q.ne)
      pick X Y i j e f =
          ap₂ (λ a b. cond (eqb b 0) (cond (eqb a 0) q.sw q.se) (cond (eqb a 0) q.nw q.ne)) e f

  -- a function of a child and of its parent, summed over the four children
  children_sum-parent : (f : ℕ → ℕ → ℕ → ℕ → A) (x y : ℕ)
      → children_sum G (λ X Y. f (X / 2) (Y / 2) X Y) x y ≡ children_sum G (λ X Y. f x y X Y) x y
  unfolding children_sum
  children_sum-parent f x y =
      four_same (ap₂ (λ a b. f a b (2 * x) (2 * y)) (half_even x) (half_even y))
      (ap₂ (λ a b. f a b (suc (2 * x)) (2 * y)) (half_odd x) (half_even y))
      (ap₂ (λ a b. f a b (2 * x) (suc (2 * y))) (half_even x) (half_odd y))
      (ap₂ (λ a b. f a b (suc (2 * x)) (suc (2 * y))) (half_odd x) (half_odd y))

  children_sum-same : (f g : Field A) (x y : ℕ)
      → ((X Y : ℕ) → X / 2 ≡ x → Y / 2 ≡ y → f X Y ≡ g X Y) → children_sum G f x y ≡ children_sum G g x y
  unfolding children_sum
  children_sum-same f g x y e =
      four_same (e _ _ (half_even x) (half_even y)) (e _ _ (half_odd x) (half_even y)) (e _ _ (half_even x) (half_odd y))
      (e _ _ (half_odd x) (half_odd y))

  children_sum-nought : (x y : ℕ) → children_sum G (λ X Y. nought) x y ≡ nought
  unfolding children_sum
  children_sum-nought x y = ap (λ z. z ⊕ nought ⊕ nought) (left_neutral G laws nought) ∙ ap (λ z. z ⊕ nought) (left_neutral G laws nought) ∙ left_neutral G laws nought

  bare : (b : Bool) (a : A) → (b ≡ true → ⊥) → gate G (not b) a ≡ a
  bare true a h = absurd (h refl)
  bare false a h = refl

  -- One cell of level l with its four children: u its content, w the children's, s the split's; c whether it was covered, c' whether
  -- it is; cc which children are covered.
  patch : (lv c c' : Bool) (u : A) (w s : Field A) (cc : ℕ → ℕ → Bool) (x y : ℕ)
      → (c ≡ true → lv ≡ true) → (c' ≡ true → lv ≡ true)
      → ((X Y : ℕ) → X / 2 ≡ x → Y / 2 ≡ y → cc X Y ≡ true → (c ≡ true) × (c' ≡ true))
      → (c ≡ true → u ≡ children_sum G w x y) → children_sum G s x y ≡ u
      → gate G (lv && not c') u ⊕ children_sum G (λ X Y. gate G (c' && not (cc X Y)) (regridded G c c' (w X Y) (s X Y))) x y
      ≡ gate G (lv && not c) u ⊕ children_sum G (λ X Y. gate G (c && not (cc X Y)) (w X Y)) x y
  patch lv true true u w s cc x y h₁ h₂ h₃ avg spl = refl
  patch lv false false u w s cc x y h₁ h₂ h₃ avg spl = refl
  patch false false true u w s cc x y h₁ h₂ h₃ avg spl = absurd (false≢true (h₂ refl))
  patch false true false u w s cc x y h₁ h₂ h₃ avg spl = absurd (false≢true (h₁ refl))
  patch true false true u w s cc x y h₁ h₂ h₃ avg spl =
      left_neutral G laws _ ∙ children_sum-same _ s x y (λ X Y p q. bare (cc X Y) (s X Y) (λ t. false≢true (h₃ X Y p q t).0)) ∙ spl
      ∙ sym (ap (λ z. u ⊕ z) (children_sum-nought x y) ∙ right_neutral u)
  patch true true false u w s cc x y h₁ h₂ h₃ avg spl =
      ap (λ z. u ⊕ z) (children_sum-nought x y) ∙ right_neutral u ∙ avg refl
      ∙ sym (left_neutral G laws _ ∙ children_sum-same _ w x y (λ X Y p q. bare (cc X Y) (w X Y) (λ t. false≢true (h₃ X Y p q t).1)))

  kept_or_split : (c : Bool) (u : A) (w s : Field A) (x y : ℕ) → (c ≡ true → u ≡ children_sum G w x y) → children_sum G s x y ≡ u
      → u ≡ children_sum G (λ X Y. regridded G c true (w X Y) (s X Y)) x y
  kept_or_split true u w s x y avg spl = avg refl
  kept_or_split false u w s x y avg spl = sym spl

  pub kept : (c c' : Bool) (w s : A) → c ≡ true → c' ≡ true → regridded G c c' w s ≡ w
  kept true true w s h₁ h₂ = refl
  kept true false w s h₁ h₂ = absurd (false≢true h₂)
  kept false c' w s h₁ h₂ = absurd (false≢true h₁)

  module _ (M : Hierarchy) (L l : ℕ) (chosen : ℕ → ℕ → Bool) (N : Nested M L) (N' : Nested (relaid M l chosen) L)
      (split : A → Children A) (spl : Splits G split) (u : Fields A) (avg : Restricted G M u) where
    abbrev M' : Hierarchy
    M' = relaid M l chosen

    abbrev u' : Fields A
    u' = regrid G M l chosen split u

    -- the new contents of level l + 1
    abbrev V : Field A
    V X Y = regridded G (M.covered l (X / 2) (Y / 2)) (chosen (X / 2) (Y / 2)) (u (suc l) X Y) (child (split (u l (X / 2) (Y / 2))) X Y)

    split_adds : (x y : ℕ) → children_sum G (child (split (u l x y))) x y ≡ u l x y
    split_adds x y = children_sum-split (split (u l x y)) x y ∙ spl (u l x y)

    new_at : u' (suc l) ≡ V
    unfolding regrid
    new_at = write_same (suc l) _ u

    new_other : (k : ℕ) → (k ≡ suc l → ⊥) → u' k ≡ u k
    unfolding regrid
    new_other k h = write_other (suc l) k _ u h

    covered_here : (x y : ℕ) → M'.covered l x y ≡ chosen x y
    covered_here x y = cond-true _ _ _ (eq-eqb l l refl)

    covered_other : (k x y : ℕ) → (k ≡ l → ⊥) → M'.covered k x y ≡ M.covered k x y
    covered_other k x y h = cond-false _ _ _ (ne_eqb k l h)

    next_other : suc l ≡ l → ⊥
    next_other e = omega arith

    live_other : (k x y : ℕ) → (k ≡ suc l → ⊥) → live M' k x y ≡ live M k x y
    live_other zero x y h = refl
    live_other (suc k) x y h = covered_other k (x / 2) (y / 2) (λ e. h (ap suc e))

    -- the children of covered cells stay live
    stays : (X Y : ℕ) → M.covered (suc l) X Y ≡ true → (M.covered l (X / 2) (Y / 2) ≡ true) × (chosen (X / 2) (Y / 2) ≡ true)
    stays X Y t = (
      N.itself (suc l) X Y t,
      sym (covered_here (X / 2) (Y / 2)) ∙ N'.itself (suc l) X Y (covered_other (suc l) X Y next_other ∙ t),
    )

    level_other : (k : ℕ) → (k ≡ l → ⊥) → (k ≡ suc l → ⊥) → level_total G M' k (u' k) ≡ level_total G M k (u k)
    unfolding level_total
    level_other k h g =
        area_same G laws (level_width M.size k) (level_height M.size k) _ _ (λ x y.
        ap₂ (λ (b : Bool) (v : A). gate G b v) (ap₂ (λ a b. a && not b) (live_other k x y g) (covered_other k x y h)) (ap (λ f. f x y) (new_other k g)))

    -- the leaves of levels l and l + 1 after
    leaf_here : (x y : ℕ) → leaf M' l x y ≡ (live M l x y && not (chosen x y))
    leaf_here x y = ap₂ (λ a b. a && not b) (live_other l x y (λ e. next_other (sym e))) (covered_here x y)

    leaf_next : (X Y : ℕ) → leaf M' (suc l) X Y ≡ (chosen (X / 2) (Y / 2) && not (M.covered (suc l) X Y))
    leaf_next X Y = ap₂ (λ a b. a && not b) (covered_here (X / 2) (Y / 2)) (covered_other (suc l) X Y next_other)

    -- the two levels as one sum over level l
    two : (K : Hierarchy) (v w : Field A)
        → level_total G K l v ⊕ level_total G K (suc l) w
        ≡ area G (level_width K.size l) (level_height K.size l) (λ x y. gate G (leaf K l x y) (v x y) ⊕ children_sum G (λ X Y. gate G (leaf K (suc l) X Y) (w X Y)) x y)
    unfolding level_total
    two K v w =
        ap₂ ◌⊕◌ refl
        (ap₂ (λ a b. area G a b (λ X Y. gate G (leaf K (suc l) X Y) (w X Y))) (width_suc K l) (height_suc K l)
        ∙ area_twice (level_width K.size l) (level_height K.size l) (λ X Y. gate G (leaf K (suc l) X Y) (w X Y)))
        ∙ sym (area-plus G laws (level_width K.size l) (level_height K.size l) _ _)

    at_cell : (x y : ℕ)
        → gate G (leaf M' l x y) (u' l x y) ⊕ children_sum G (λ X Y. gate G (leaf M' (suc l) X Y) (u' (suc l) X Y)) x y
        ≡ gate G (leaf M l x y) (u l x y) ⊕ children_sum G (λ X Y. gate G (leaf M (suc l) X Y) (u (suc l) X Y)) x y
    at_cell x y =
        ap₂ ◌⊕◌
        (ap₂ (λ (b : Bool) (f : Field A). gate G b (f x y)) (leaf_here x y) (new_other l (λ e. next_other (sym e))))
        (children_sum-same _ (λ X Y. gate G (chosen (X / 2) (Y / 2) && not (M.covered (suc l) X Y)) (V X Y)) x y
        (λ X Y _ _. ap₂ (λ (b : Bool) (f : Field A). gate G b (f X Y)) (leaf_next X Y) new_at)
        ∙ children_sum-parent (λ a b X Y. gate G (chosen a b && not (M.covered (suc l) X Y))
        (regridded G (M.covered l a b) (chosen a b) (u (suc l) X Y) (child (split (u l a b)) X Y))) x y)
        ∙ patch (live M l x y) (M.covered l x y) (chosen x y) (u l x y) (u (suc l)) (child (split (u l x y))) (M.covered (suc l)) x y
        (N.itself l x y)
        (λ t. sym (live_other l x y (λ e. next_other (sym e))) ∙ N'.itself l x y (covered_here x y ∙ t))
        (λ X Y p q t. subst₂ (λ a b. (M.covered l a b ≡ true) × (chosen a b ≡ true)) p q (stays X Y t))
        (avg l x y) (split_adds x y)
        ∙ ap₂ ◌⊕◌ refl (sym (children_sum-parent (λ a b X Y. gate G (M.covered l a b && not (M.covered (suc l) X Y)) (u (suc l) X Y)) x y))

    two_levels : level_total G M' l (u' l) ⊕ level_total G M' (suc l) (u' (suc l))
        ≡ level_total G M l (u l) ⊕ level_total G M (suc l) (u (suc l))
    two_levels =
        two M' (u' l) (u' (suc l)) ∙ area_same G laws (level_width M.size l) (level_height M.size l) _ _ at_cell ∙ sym (two M (u l) (u (suc l)))

    above : (d k : ℕ) → suc l < k → composite_total G M' d k u' ≡ composite_total G M d k u
    unfolding composite_total
    above zero k h = refl
    above (suc d) k h =
        ap₂ ◌⊕◌ (level_other k (λ e. lt_irrefl l (omega arith)) (λ e. lt_irrefl l (omega arith))) (above d (suc k) (omega arith))

    from_here : (d : ℕ) → suc l < l + suc d → composite_total G M' (suc d) l u' ≡ composite_total G M (suc d) l u
    unfolding composite_total
    from_here zero h = absurd (omega arith)
    from_here (suc d) h =
        sym (assoc _ _ _) ∙ ap₂ ◌⊕◌ two_levels (above d (suc (suc l)) (omega arith)) ∙ assoc _ _ _

    from_below : (d k : ℕ) → k ≤ l → suc l < k + d → composite_total G M' d k u' ≡ composite_total G M d k u
    unfolding composite_total
    from_below zero k h g = absurd (omega arith)
    from_below (suc d) k h g =
        elim (eq-or-lt_of_le h) [
          | inl e ↦ subst (λ j. composite_total G M' (suc d) j u' ≡ composite_total G M (suc d) j u) (sym e)
              (from_here d (subst (λ j. suc l < j + suc d) e g))
          | inr h' ↦ ap₂ ◌⊕◌ (level_other k (λ e. lt_irrefl l (omega arith)) (λ e. lt_irrefl l (omega arith))) (from_below d (suc k) h' (omega arith))
        ]

    restricted_here : (x y : ℕ) → chosen x y ≡ true → u' l x y ≡ children_sum G (u' (suc l)) x y
    restricted_here x y c =
        ap (λ f. f x y) (new_other l (λ e. next_other (sym e)))
        ∙ kept_or_split (M.covered l x y) (u l x y) (u (suc l)) (child (split (u l x y))) x y (avg l x y) (split_adds x y)
        ∙ ap (λ b. children_sum G (λ X Y. regridded G (M.covered l x y) b (u (suc l) X Y) (child (split (u l x y)) X Y)) x y) (sym c)
        ∙ sym (children_sum-parent (λ a b X Y. regridded G (M.covered l a b) (chosen a b) (u (suc l) X Y) (child (split (u l a b)) X Y)) x y)
        ∙ ap (λ f. children_sum G f x y) (sym new_at)

    restricted_next : (x y : ℕ) → M.covered (suc l) x y ≡ true → u' (suc l) x y ≡ children_sum G (u' (suc (suc l))) x y
    restricted_next x y c =
        ap (λ f. f x y) new_at ∙ kept _ _ _ _ (stays x y c).0 (stays x y c).1 ∙ avg (suc l) x y c
        ∙ ap (λ f. children_sum G f x y) (sym (new_other (suc (suc l)) (λ e. lt_irrefl l (omega arith))))

    restricted_other : (k x y : ℕ) → (k ≡ l → ⊥) → (k ≡ suc l → ⊥) → M.covered k x y ≡ true → u' k x y ≡ children_sum G (u' (suc k)) x y
    restricted_other k x y h g c =
        ap (λ f. f x y) (new_other k g) ∙ avg k x y c ∙ ap (λ f. children_sum G f x y) (sym (new_other (suc k) (λ e. h (suc_inj e))))

    restricted : (k x y : ℕ) → M'.covered k x y ≡ true → u' k x y ≡ children_sum G (u' (suc k)) x y
    restricted k x y c =
        elim (ℕ_discrete k l) [
          | yes e ↦ subst (λ j. u' j x y ≡ children_sum G (u' (suc j)) x y) (sym e)
              (restricted_here x y (sym (covered_here x y) ∙ subst (λ j. M'.covered j x y ≡ true) e c))
          | no h ↦ elim (ℕ_discrete k (suc l)) [
            | yes e ↦ subst (λ j. u' j x y ≡ children_sum G (u' (suc j)) x y) (sym e)
                (restricted_next x y (subst (λ j. M.covered j x y ≡ true) e (sym (covered_other k x y h) ∙ c)))
            | no g ↦ restricted_other k x y h g (sym (covered_other k x y h) ∙ c)
          ]
        ]

pub regrid_conserves : (A : Type 0) → RegridConserves A
regrid_conserves A G laws M L l chosen h N N' split spl u avg =
    (from_below G laws M L l chosen N N' split spl u avg L 0 zero-le (omega arith), restricted G laws M L l chosen N N' split spl u avg)
