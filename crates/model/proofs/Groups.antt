-- Sums and differences in a commutative group.
use Rattle.std.proofs.Common.{◌≡◌, ℕ, zero, suc, Bool, true, false, sym, refl, ap, ◌∙◌, ap₂}
use Rattle.model.specs.Sums.{gate, sum}
use Rattle.model.specs.Groups.{Amounts, Group, minus}
use Rattle.model.proofs.Sums.{left_neutral, left_comm, pairs}

-- what crosses the face above cell i into the cells of m, from low to high
abbrev pub jump : {A : Type 0} → Amounts A → (ℕ → Bool) → (ℕ → A) → ℕ → A
jump G m f i = minus G (gate G.addition (m (suc i)) (f (suc i))) (gate G.addition (m i) (f (suc i)))

module _ {A : Type 0} (G : Amounts A) (laws : Group G) where
  open G use {addition, negation as neg}
  open addition use {zero as nought, ◌⊕◌}
  open laws use {sums, inverse as opposite}
  open sums use {assoc, comm, neutral as right_neutral}

  infixl 60 ◌⊕◌
  -- a and its opposite, with something between
  pub cancel : (a b : A) → a ⊕ (neg a ⊕ b) ≡ b
  cancel a b = sym (assoc a (neg a) b) ∙ ap (λ x. x ⊕ b) (opposite a) ∙ left_neutral addition sums b

  pub neg_nought : neg nought ≡ nought
  neg_nought = sym (left_neutral addition sums (neg nought)) ∙ opposite nought

  pub neg_neg : (a : A) → neg (neg a) ≡ a
  neg_neg a =
      sym (left_neutral addition sums (neg (neg a))) ∙ ap (λ x. x ⊕ neg (neg a)) (sym (opposite a)) ∙ assoc a (neg a) (neg (neg a))
      ∙ ap (λ x. a ⊕ x) (opposite (neg a)) ∙ right_neutral a

  pub neg_unique : (a b : A) → a ⊕ b ≡ nought → b ≡ neg a
  neg_unique a b e =
      sym (left_neutral addition sums b) ∙ ap (λ x. x ⊕ b) (sym (comm (neg a) a ∙ opposite a)) ∙ assoc (neg a) a b
      ∙ ap (λ x. neg a ⊕ x) e ∙ right_neutral (neg a)

  pub neg_plus : (a b : A) → neg (a ⊕ b) ≡ neg a ⊕ neg b
  neg_plus a b =
      sym (neg_unique (a ⊕ b) (neg a ⊕ neg b) (pairs addition sums a b (neg a) (neg b) ∙ ap₂ ◌⊕◌ (opposite a) (opposite b) ∙ left_neutral addition sums nought))

  pub minus_plus : (a b c d : A) → minus G a b ⊕ minus G c d ≡ minus G (a ⊕ c) (b ⊕ d)
  minus_plus a b c d = pairs addition sums a (neg b) c (neg d) ∙ ap (λ x. a ⊕ c ⊕ x) (sym (neg_plus b d))

  gate-minus : (b : Bool) (x y : A) → gate addition b (minus G x y) ≡ minus G (gate addition b x) (gate addition b y)
  gate-minus true x y = refl
  gate-minus false x y = sym (opposite nought)

  regroup : (a b c d e : A) → a ⊕ neg b ⊕ c ⊕ (d ⊕ neg e) ≡ a ⊕ neg e ⊕ (c ⊕ (d ⊕ neg b))
  regroup a b c d e = simp (assoc, comm, left_comm addition sums)

  -- Summation by parts: the cells of m gain what crosses the two ends of the line and what crosses between them.
  pub by_parts : (k : ℕ) (m : ℕ → Bool) (f : ℕ → A)
      → sum addition (suc k) (λ i. gate addition (m i) (minus G (f i) (f (suc i))))
      ≡ minus G (gate addition (m 0) (f 0)) (gate addition (m k) (f (suc k))) ⊕ sum addition k (jump G m f)
  by_parts zero m f = left_neutral addition sums _ ∙ gate-minus (m 0) (f 0) (f 1) ∙ sym (right_neutral _)
  by_parts (suc k) m f =
      ap₂ ◌⊕◌ (by_parts k m f) (gate-minus (m (suc k)) (f (suc k)) (f (suc (suc k))))
      ∙ regroup (gate addition (m 0) (f 0)) (gate addition (m k) (f (suc k))) (sum addition k (jump G m f)) (gate addition (m (suc k)) (f (suc k)))
      (gate addition (m (suc k)) (f (suc (suc k))))
