-- Faces of the finer level are halves of faces of the coarser one, or lie inside one parent.
use Rattle.std.proofs.Common.{◌≡◌, ℕ, zero, suc, pred, ◌*◌, ◌/◌, ◌<◌, Bool, sym, refl, ap, ◌∙◌, ap₂, arith}
use native.Mathlib.Nat.{suc-lt_of_lt-pred}
use Rattle.model.specs.Sums.{gate, sum}
use Rattle.model.specs.Groups.{Amounts, Group, minus}
use Rattle.model.proofs.Sums.{left_neutral, sum-nought, sum_same, sum-plus}
use Rattle.model.proofs.Doubles.{half_even, half_odd, gate-plus, sum_twice}
use Rattle.model.proofs.Groups.{minus_plus, jump}
use Rattle.model.proofs.Faces.{edge}

half_next : (i : ℕ) → suc (suc (2 * i)) / 2 ≡ suc i
half_next i = omega arith

next_even : (i : ℕ) → suc (suc (2 * i)) ≡ 2 * suc i
next_even i = omega arith

twice_pred : (k : ℕ) → pred (2 * suc k) ≡ suc (2 * k)
twice_pred k = omega arith

module _ {A : Type 0} (G : Amounts A) (laws : Group G) where
  open G use {addition, negation as neg}
  open addition use {zero as nought, ◌⊕◌}
  open laws use {sums, inverse as opposite}
  open sums use {assoc, comm, neutral as right_neutral}

  infixl 60 ◌⊕◌
  -- a face inside one parent
  odd_face : (m : ℕ → Bool) (g : ℕ → A) (i : ℕ) → jump G (λ x. m (x / 2)) g (2 * i) ≡ nought
  odd_face m g i =
      ap₂ (λ a b. minus G (gate addition (m a) (g (suc (2 * i)))) (gate addition (m b) (g (suc (2 * i))))) (half_odd i) (half_even i)
      ∙ opposite _

  -- a half of the face above cell i
  even_face : (m : ℕ → Bool) (g : ℕ → A) (i : ℕ)
      → jump G (λ x. m (x / 2)) g (suc (2 * i)) ≡ jump G m (λ x. g (2 * x)) i
  even_face m g i =
      ap₂ (λ a b. minus G (gate addition (m a) (g (suc (suc (2 * i))))) (gate addition (m b) (g (suc (suc (2 * i)))))) (half_next i) (half_odd i)
      ∙ ap (λ a. minus G (gate addition (m (suc i)) (g a)) (gate addition (m i) (g a))) (next_even i)

  half_line : (n : ℕ) (m : ℕ → Bool) (g : ℕ → A)
      → sum addition (pred (2 * n)) (jump G (λ x. m (x / 2)) g) ≡ sum addition (pred n) (jump G m (λ x. g (2 * x)))
  half_line zero m g = refl
  half_line (suc k) m g =
      ap (λ a. sum addition a (jump G (λ x. m (x / 2)) g)) (twice_pred k)
      ∙ ap₂ ◌⊕◌ (sum_twice addition sums k (jump G (λ x. m (x / 2)) g)) (odd_face m g k)
      ∙ right_neutral _
      ∙ sum_same addition sums k _ _ (λ i. ap₂ ◌⊕◌ (odd_face m g i) (even_face m g i) ∙ left_neutral addition sums _)

  gates : (a b : Bool) (x y : A)
      → minus G (gate addition a x) (gate addition b x) ⊕ minus G (gate addition a y) (gate addition b y) ≡ minus G (gate addition a (x ⊕ y)) (gate addition b (x ⊕ y))
  gates a b x y = minus_plus G laws _ _ _ _ ∙ ap₂ (minus G) (gate-plus addition sums a x y) (gate-plus addition sums b x y)

  pub edge_halves : (n k : ℕ) (m : ℕ → ℕ → Bool) (φ : ℕ → ℕ → A)
      → edge G (2 * n) (2 * k) (λ x y. m (x / 2) (y / 2)) φ
      ≡ edge G n k m (λ x y. φ (2 * x) (2 * y) ⊕ φ (2 * x) (suc (2 * y)))
  unfolding edge
  edge_halves n k m φ =
      sum_twice addition sums k _
      ∙ sum_same addition sums k _ _ (λ y.
      ap₂ (λ a b. sum addition (pred (2 * n)) (jump G (λ x. m (x / 2) a) (λ x. φ x (2 * y)))
      ⊕ sum addition (pred (2 * n)) (jump G (λ x. m (x / 2) b) (λ x. φ x (suc (2 * y))))) (half_even y) (half_odd y)
      ∙ ap₂ ◌⊕◌ (half_line n (λ x. m x y) (λ x. φ x (2 * y))) (half_line n (λ x. m x y) (λ x. φ x (suc (2 * y))))
      ∙ sym (sum-plus addition sums (pred n) _ _)
      ∙ sum_same addition sums (pred n) _ _ (λ i. gates (m (suc i) y) (m i y) (φ (2 * suc i) (2 * y)) (φ (2 * suc i) (suc (2 * y)))))

  gate_flat : (a b : Bool) (x : A) → a ≡ b → minus G (gate addition a x) (gate addition b x) ≡ nought
  gate_flat a b x e = ap (λ c. minus G (gate addition c x) (gate addition b x)) e ∙ opposite _

  -- nothing crosses into the cells of m where no face has just one of them
  pub edge_flat : (n k : ℕ) (m : ℕ → ℕ → Bool) (φ : ℕ → ℕ → A)
      → ((i y : ℕ) → suc i < n → y < k → m (suc i) y ≡ m i y) → edge G n k m φ ≡ nought
  unfolding edge
  edge_flat n k m φ e =
      sum-nought addition sums k _ (λ y hy. sum-nought addition sums (pred n) _ (λ i hi.
      gate_flat (m (suc i) y) (m i y) (φ (suc i) y) (e i y (suc-lt_of_lt-pred hi) hy)))

  pub edge_plus : (n k : ℕ) (m : ℕ → ℕ → Bool) (φ ψ : ℕ → ℕ → A)
      → edge G n k m φ ⊕ edge G n k m ψ ≡ edge G n k m (λ x y. φ x y ⊕ ψ x y)
  unfolding edge
  edge_plus n k m φ ψ =
      sym (sum-plus addition sums k _ _)
      ∙ sum_same addition sums k _ _ (λ y.
      sym (sum-plus addition sums (pred n) _ _)
      ∙ sum_same addition sums (pred n) _ _ (λ i. gates (m (suc i) y) (m i y) (φ (suc i) y) (ψ (suc i) y)))
