-- A pour adds its amount to the composite total, and keeps that each covered cell holds the sum of its children.
use Rattle.std.proofs.Common.{◌≡◌, ℕ, zero, suc, ◌+◌, ◌*◌, ◌<◌, ◌≤◌, Bool, true, false, cond, not, ◌&&◌, eqb, sym, refl, ap, ◌∙◌, subst, ap₂, inl, inr, true≢false, lt_trans, le_refl, le_of_suc-le-suc, add-zero, le_of_lt, lt_irrefl, add-suc, lt-suc_self, suc-add, eq-or-lt_of_le, arith}
use mathlib.Core.Bool.{false≢true}
use native.Mathlib.Decide.{ℕ_discrete}
use Rattle.std.proofs.lemmas.Bool.{cond_both, eq-eqb, ne_eqb, eqb-true, and_right}
use Rattle.amount.specs.Additions.{Addition, Sums}
use Rattle.grid.specs.Sizes.{level_width, level_height}
use Rattle.grid.specs.Hierarchies.{Hierarchy, live, leaf}
use Rattle.model.specs.Fields.{Field, Fields, write}
use Rattle.model.specs.Sums.{gate, sum, area}
use Rattle.model.specs.Total.{level_total, composite_total}
use Rattle.model.specs.Pour.{added, pour}
use Rattle.model.specs.Nesting.{Nested}
use Rattle.model.specs.Step.{children_sum}
use Rattle.model.proofs.Sums.{gate_none, left_neutral, pairs, sum_same, sum-plus, sum-nought}
use Rattle.model.proofs.Doubles.{half_even, gate-plus, area_same}
use Rattle.model.proofs.Grids.{inside}
use Rattle.model.proofs.Writes.{write_same, write_other, write_above, total_above}
use Rattle.model.proofs.Regrids.{four_same}

eqb_twice : (i x : ℕ) → eqb (2 * i) (2 * x) ≡ eqb i x
eqb_twice i x =
    elim (ℕ_discrete i x) [
      | yes e ↦ ap (λ j. eqb (2 * j) (2 * x)) e ∙ eq-eqb (2 * x) (2 * x) refl ∙ sym (ap (λ j. eqb j x) e ∙ eq-eqb x x refl)
      | no h ↦ ne_eqb (2 * i) (2 * x) (λ e. h (omega arith)) ∙ sym (ne_eqb i x h)
    ]

eqb_odd : (i x : ℕ) → eqb (suc (2 * i)) (2 * x) ≡ false
eqb_odd i x = ne_eqb _ _ (λ e. lt_irrefl x (omega arith))

pub at_corner : (M : Hierarchy) (l x y : ℕ) → M.covered l x y ≡ true → live M (suc l) (2 * x) (2 * y) ≡ true
at_corner M l x y c = ap₂ (λ p q. M.covered l p q) (half_even x) (half_even y) ∙ c

module _ {A : Type 0} (G : Addition A) (laws : Sums G) where
  open G use {zero as nought, ◌⊕◌}
  open laws use {assoc, comm, neutral as right_neutral}

  infixl 60 ◌⊕◌
  pub gate_nought : (b : Bool) → gate G b nought ≡ nought
  gate_nought true = refl
  gate_nought false = refl

  -- one term of a sum
  sum_one : (n x : ℕ) (f : ℕ → A) → x < n → sum G n (λ i. gate G (eqb i x) (f i)) ≡ f x
  sum_one zero x f h = absurd (omega arith)
  sum_one (suc n) x f h =
      elim (eq-or-lt_of_le (le_of_suc-le-suc h)) [
        | inl e ↦ ap₂ ◌⊕◌ (sum-nought G laws n _ (λ i g. gate_none G laws _ _ (ne_eqb i x (λ e'. lt_irrefl x (omega arith)))))
            (ap (λ b. gate G b (f n)) (ap (λ j. eqb n j) e ∙ eq-eqb n n refl))
            ∙ left_neutral G laws (f n) ∙ ap f (sym e)
        | inr g ↦ ap₂ ◌⊕◌ (sum_one n x f g) (gate_none G laws _ _ (ne_eqb n x (λ e. lt_irrefl x (omega arith)))) ∙ right_neutral (f x)
      ]

  sum-gate : (n : ℕ) (b : Bool) (f : ℕ → A) → sum G n (λ i. gate G b (f i)) ≡ gate G b (sum G n f)
  sum-gate n true f = refl
  sum-gate n false f = sum-nought G laws n _ (λ i h. refl)

  gates : (c p q : Bool) (a : A) → gate G c (gate G (p && q) a) ≡ gate G p (gate G q (gate G c a))
  gates true true true a = refl
  gates true true false a = refl
  gates true false q a = refl
  gates false true true a = refl
  gates false true false a = refl
  gates false false q a = refl

  -- one cell of a grid
  area_one : (w h x y : ℕ) (c : ℕ → ℕ → Bool) (a : A) → x < w → y < h
      → area G w h (λ i j. gate G (c i j) (gate G (eqb i x && eqb j y) a)) ≡ gate G (c x y) a
  area_one w h x y c a hx hy =
      area_same G laws w h _ _ (λ i j. gates (c i j) (eqb i x) (eqb j y) a)
      ∙ sum_same G laws w _ _ (λ i. sum-gate h (eqb i x) _ ∙ ap (gate G (eqb i x)) (sum_one h y (λ j. gate G (c i j) a) hy))
      ∙ sum_one w x (λ i. gate G (c i y) a) hx

  added_is : (x y : ℕ) (a : A) (v : Field A) (i j : ℕ) → added G x y a v i j ≡ v i j ⊕ gate G (eqb i x && eqb j y) a
  unfolding added
  added_is x y a v i j = by (eqb i x && eqb j y)
    where
      by : (b : Bool) → cond b (v i j ⊕ a) (v i j) ≡ v i j ⊕ gate G b a
      by true = refl
      by false = sym (right_neutral (v i j))

  level_added : (M : Hierarchy) (l x y : ℕ) (a : A) (v : Field A) → x < level_width M.size l → y < level_height M.size l
      → level_total G M l (added G x y a v) ≡ level_total G M l v ⊕ gate G (leaf M l x y) a
  unfolding level_total
  level_added M l x y a v hx hy =
      area_same G laws _ _ _ _ (λ i j. ap (gate G (leaf M l i j)) (added_is x y a v i j) ∙ sym (gate-plus G laws (leaf M l i j) (v i j) _))
      ∙ sum_same G laws (level_width M.size l) _ _ (λ i. sum-plus G laws (level_height M.size l) _ _) ∙ sum-plus G laws (level_width M.size l) _ _
      ∙ ap (λ z. level_total G M l v ⊕ z) (area_one (level_width M.size l) (level_height M.size l) x y (leaf M l) a hx hy)

  children_sum-plus : (f g : Field A) (i j : ℕ) → children_sum G (λ X Y. f X Y ⊕ g X Y) i j ≡ children_sum G f i j ⊕ children_sum G g i j
  unfolding children_sum
  children_sum-plus f g i j = ap₂ ◌⊕◌ (ap₂ ◌⊕◌ (pairs G laws _ _ _ _) refl ∙ pairs G laws _ _ _ _) refl ∙ pairs G laws _ _ _ _

  -- of the children of a cell only the south-west one can be at (2x, 2y)
  children_sum-corner : (x y i j : ℕ) (a : A) → children_sum G (λ X Y. gate G (eqb X (2 * x) && eqb Y (2 * y)) a) i j ≡ gate G (eqb i x && eqb j y) a
  unfolding children_sum
  children_sum-corner x y i j a =
      four_same G laws (ap₂ (λ p q. gate G (p && q) a) (eqb_twice i x) (eqb_twice j y))
      (ap (λ p. gate G (p && eqb (2 * j) (2 * y)) a) (eqb_odd i x))
      (ap₂ (λ p q. gate G (p && q) a) (eqb_twice i x) (eqb_odd j y) ∙ gate_none G laws _ a (and_right (eqb i x) false refl))
      (ap (λ p. gate G (p && eqb (suc (2 * j)) (2 * y)) a) (eqb_odd i x))
      ∙ right_neutral _ ∙ right_neutral _ ∙ right_neutral _

  children_sum-added : (x y : ℕ) (a : A) (v : Field A) (i j : ℕ)
      → children_sum G (added G (2 * x) (2 * y) a v) i j ≡ children_sum G v i j ⊕ gate G (eqb i x && eqb j y) a
  unfolding children_sum
  children_sum-added x y a v i j =
      four_same G laws (added_is _ _ a v _ _) (added_is _ _ a v _ _) (added_is _ _ a v _ _) (added_is _ _ a v _ _)
      ∙ children_sum-plus v (λ X Y. gate G (eqb X (2 * x) && eqb Y (2 * y)) a) i j
      ∙ ap (λ z. children_sum G v i j ⊕ z) (children_sum-corner x y i j a)

  -- what a pour writes: nothing below level l, and on level l the one cell
  pour_below : (M : Hierarchy) (d l x y : ℕ) (a : A) (u : Fields A) (k : ℕ) → k < l → pour G M d l x y a u k ≡ u k
  unfolding pour
  pour_below M zero l x y a u k h = refl
  pour_below M (suc d) l x y a u k h =
      let other : write l (added G x y a (u l)) u k ≡ u k = write_other l k _ u (λ e. lt_irrefl k (omega arith)) in
      cond_both (M.covered l x y) _ _ (λ (v : Fields A). v k ≡ u k)
      (λ _. pour_below M d (suc l) (2 * x) (2 * y) a _ k (lt_trans h (lt-suc_self l)) ∙ other) (λ _. other)

  pour_at : (M : Hierarchy) (d l x y : ℕ) (a : A) (u : Fields A) → pour G M (suc d) l x y a u l ≡ added G x y a (u l)
  unfolding pour
  pour_at M d l x y a u =
      cond_both (M.covered l x y) _ _ (λ (v : Fields A). v l ≡ added G x y a (u l))
      (λ _. pour_below M d (suc l) (2 * x) (2 * y) a _ l (lt-suc_self l) ∙ write_same l _ u) (λ _. write_same l _ u)

  leaf_not : (M : Hierarchy) (l x y : ℕ) → M.covered l x y ≡ true → leaf M l x y ≡ false
  leaf_not M l x y c = ap (λ b. live M l x y && not b) c ∙ and_right (live M l x y) false refl

  leaf_so : (M : Hierarchy) (l x y : ℕ) → live M l x y ≡ true → M.covered l x y ≡ false → leaf M l x y ≡ true
  leaf_so M l x y v c = ap₂ (λ a b. a && not b) v c

  pub last : (p a q : A) → p ⊕ a ⊕ q ≡ p ⊕ q ⊕ a
  last p a q = assoc p a q ∙ ap (λ z. p ⊕ z) (comm a q) ∙ sym (assoc p q a)

  module _ (M : Hierarchy) (L : ℕ) (N : Nested M L) where
    pub pour_total : (d l x y : ℕ) (a : A) (u : Fields A) → live M l x y ≡ true → ((X Y : ℕ) → live M (l + d) X Y ≡ false)
        → composite_total G M d l (pour G M d l x y a u) ≡ composite_total G M d l u ⊕ a
    unfolding composite_total pour
    pour_total zero l x y a u v h = absurd (true≢false (sym v ∙ ap (λ k. live M k x y) (sym (add-zero l)) ∙ h x y))
    pour_total (suc d) l x y a u v h =
        let within = inside M L N l x y v in
        let u' : Fields A = write l (added G x y a (u l)) u in
        let finer : composite_total G M d (suc l) u' ≡ composite_total G M d (suc l) u = total_above G M d (suc l) l _ u (lt-suc_self l) in
        let here : level_total G M l (added G x y a (u l)) ≡ level_total G M l (u l) ⊕ gate G (leaf M l x y) a =
        level_added M l x y a (u l) within.0 within.1 in
        cond_both (M.covered l x y) _ _
        (λ (w : Fields A). composite_total G M (suc d) l w ≡ level_total G M l (u l) ⊕ composite_total G M d (suc l) u ⊕ a)
        (λ c.
        ap₂ ◌⊕◌
        (ap (level_total G M l) (pour_below M d (suc l) (2 * x) (2 * y) a u' l (lt-suc_self l) ∙ write_same l _ u) ∙ here
        ∙ ap₂ ◌⊕◌ refl (gate_none G laws _ a (leaf_not M l x y c)) ∙ right_neutral _)
        (pour_total d (suc l) (2 * x) (2 * y) a u' (at_corner M l x y c)
        (λ X Y. ap (λ k. live M k X Y) (suc-add l d ∙ sym (add-suc l d)) ∙ h X Y)
        ∙ ap₂ ◌⊕◌ finer refl)
        ∙ sym (assoc _ _ _))
        (λ c.
        ap₂ ◌⊕◌
        (ap (level_total G M l) (write_same l _ u) ∙ here ∙ ap₂ ◌⊕◌ refl (ap (λ b. gate G b a) (leaf_so M l x y v c)))
        finer
        ∙ last _ _ _)

    -- the cell and its children, where the cell is covered and poured into
    deep_here : (d l x y : ℕ) (a : A) (u : Fields A) (i j : ℕ) → suc l < l + suc d → u l i j ≡ children_sum G (u (suc l)) i j
        → pour G M d (suc l) (2 * x) (2 * y) a (write l (added G x y a (u l)) u) l i j
        ≡ children_sum G (pour G M d (suc l) (2 * x) (2 * y) a (write l (added G x y a (u l)) u) (suc l)) i j
    deep_here zero l x y a u i j h e = absurd (omega arith)
    deep_here (suc d) l x y a u i j h e =
        let u' : Fields A = write l (added G x y a (u l)) u in
        ap (λ f. f i j) (pour_below M (suc d) (suc l) (2 * x) (2 * y) a u' l (lt-suc_self l) ∙ write_same l _ u)
        ∙ added_is x y a (u l) i j ∙ ap₂ ◌⊕◌ e refl ∙ sym (children_sum-added x y a (u (suc l)) i j)
        ∙ ap (λ f. children_sum G f i j)
        (ap (added G (2 * x) (2 * y) a) (sym (write_above l (suc l) _ u (lt-suc_self l))) ∙ sym (pour_at M d (suc l) (2 * x) (2 * y) a u'))

    flat_here : (l x y : ℕ) (a : A) (u : Fields A) (i j : ℕ) → M.covered l x y ≡ false → M.covered l i j ≡ true
        → u l i j ≡ children_sum G (u (suc l)) i j
        → write l (added G x y a (u l)) u l i j ≡ children_sum G (write l (added G x y a (u l)) u (suc l)) i j
    flat_here l x y a u i j c t e =
        ap (λ f. f i j) (write_same l _ u) ∙ added_is x y a (u l) i j
        ∙ ap₂ ◌⊕◌ e (gate_none G laws _ a (elsewhere (eqb i x) (eqb j y) (eqb→so i x) (eqb→so j y)))
        ∙ right_neutral _ ∙ ap (λ f. children_sum G f i j) (sym (write_above l (suc l) _ u (lt-suc_self l)))
      where
        eqb→so : (m n : ℕ) → eqb m n ≡ true → m ≡ n
        eqb→so m n s = eqb-true m n s

        elsewhere : (p q : Bool) → (p ≡ true → i ≡ x) → (q ≡ true → j ≡ y) → (p && q) ≡ false
        elsewhere true true p q = absurd (false≢true (sym c ∙ sym (ap₂ (λ m n. M.covered l m n) (p refl) (q refl)) ∙ t))
        elsewhere true false p q = refl
        elsewhere false q p q' = refl

    beyond : (l k : ℕ) (f : Field A) (u : Fields A) (i j : ℕ) → l < k → u k i j ≡ children_sum G (u (suc k)) i j
        → write l f u k i j ≡ children_sum G (write l f u (suc k)) i j
    beyond l k f u i j h e =
        ap (λ v. v i j) (write_above l k f u h) ∙ e
        ∙ ap (λ v. children_sum G v i j) (sym (write_above l (suc k) f u (lt_trans h (lt-suc_self k))))

    pub pour_restricted : (d l x y : ℕ) (a : A) (u : Fields A) → l + d ≡ L
        → ((k i j : ℕ) → l ≤ k → M.covered k i j ≡ true → u k i j ≡ children_sum G (u (suc k)) i j)
        → (k i j : ℕ) → l ≤ k → M.covered k i j ≡ true
        → pour G M d l x y a u k i j ≡ children_sum G (pour G M d l x y a u (suc k)) i j
    unfolding pour
    pour_restricted zero l x y a u e h k i j g t = h k i j g t
    pour_restricted (suc d) l x y a u e h k i j g t =
        cond_both (M.covered l x y) _ _ (λ (w : Fields A). w k i j ≡ children_sum G (w (suc k)) i j)
        (λ c. elim (eq-or-lt_of_le g) [
          | inl p ↦ subst (λ n. pour G M d (suc l) (2 * x) (2 * y) a (write l (added G x y a (u l)) u) n i j
              ≡ children_sum G (pour G M d (suc l) (2 * x) (2 * y) a (write l (added G x y a (u l)) u) (suc n)) i j) p
              (deep_here d l x y a u i j (omega (arith, N.deep l x y c)) (h l i j (le_refl l) (subst (λ n. M.covered n i j ≡ true) (sym p) t)))
          | inr p ↦ pour_restricted d (suc l) (2 * x) (2 * y) a (write l (added G x y a (u l)) u) (omega arith)
              (λ k' i' j' g' t'. beyond l k' _ u i' j' g' (h k' i' j' (le_of_lt g') t')) k i j p t
        ])
        (λ c. elim (eq-or-lt_of_le g) [
          | inl p ↦ subst (λ n. write l (added G x y a (u l)) u n i j ≡ children_sum G (write l (added G x y a (u l)) u (suc n)) i j) p
              (flat_here l x y a u i j c (subst (λ n. M.covered n i j ≡ true) (sym p) t)
              (h l i j (le_refl l) (subst (λ n. M.covered n i j ≡ true) (sym p) t)))
          | inr p ↦ beyond l k _ u i j p (h k i j g t)
        ])
