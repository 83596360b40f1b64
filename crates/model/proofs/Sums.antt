-- Sums over ranges. Assumes nothing.
use Rattle.std.proofs.Common.{◌≡◌, ℕ, zero, suc, ◌<◌, Bool, true, false, true≢false, sym, refl, ap, ◌∙◌, ap₂, lt-suc_self}
use native.Mathlib.Nat.{le_step}
use Rattle.amount.specs.Additions.{Addition, Sums}
use Rattle.model.specs.Sums.{gate, sum}

module _ {A : Type 0} (G : Addition A) (laws : Sums G) where
  open G use {◌⊕◌}

  infixl 60 ◌⊕◌
  nought : A
  nought = G.zero

  -- nothing passes a closed gate
  pub gate_none : (b : Bool) (a : A) → b ≡ false → gate G b a ≡ G.zero
  gate_none true a h = absurd (true≢false h)
  gate_none false a h = refl

  pub left_neutral : (a : A) → G.zero ⊕ a ≡ a
  left_neutral a = laws.comm G.zero a ∙ laws.neutral a

  pub left_comm : (a b c : A) → a ⊕ (b ⊕ c) ≡ b ⊕ (a ⊕ c)
  left_comm a b c = sym (laws.assoc a b c) ∙ ap (λ x. x ⊕ c) (laws.comm a b) ∙ laws.assoc b a c

  pub pairs : (a b c d : A) → (a ⊕ b) ⊕ (c ⊕ d) ≡ (a ⊕ c) ⊕ (b ⊕ d)
  pairs a b c d =
      laws.assoc a b (c ⊕ d) ∙ ap (λ x. a ⊕ x) (left_comm b c d) ∙ sym (laws.assoc a c (b ⊕ d))

  pub sum-cong : (n : ℕ) (f g : ℕ → A) → ((i : ℕ) → i < n → f i ≡ g i) → sum G n f ≡ sum G n g
  sum-cong zero f g e = refl
  sum-cong (suc n) f g e = ap₂ ◌⊕◌ (sum-cong n f g (λ i h. e i (le_step h))) (e n (lt-suc_self n))

  pub sum_same : (n : ℕ) (f g : ℕ → A) → ((i : ℕ) → f i ≡ g i) → sum G n f ≡ sum G n g
  sum_same n f g e = sum-cong n f g (λ i _. e i)

  pub sum-plus : (n : ℕ) (f g : ℕ → A) → sum G n (λ i. f i ⊕ g i) ≡ sum G n f ⊕ sum G n g
  sum-plus zero f g = sym (laws.neutral G.zero)
  sum-plus (suc n) f g = ap (λ x. x ⊕ (f n ⊕ g n)) (sum-plus n f g) ∙ pairs (sum G n f) (sum G n g) (f n) (g n)

  pub sum-nought : (n : ℕ) (f : ℕ → A) → ((i : ℕ) → i < n → f i ≡ G.zero) → sum G n f ≡ G.zero
  sum-nought zero f e = refl
  sum-nought (suc n) f e = ap₂ ◌⊕◌ (sum-nought n f (λ i h. e i (le_step h))) (e n (lt-suc_self n)) ∙ laws.neutral G.zero

  -- rows first or columns first
  pub sum_swap : (n k : ℕ) (f : ℕ → ℕ → A) → sum G n (λ x. sum G k (λ y. f x y)) ≡ sum G k (λ y. sum G n (λ x. f x y))
  sum_swap zero k f = sym (sum-nought k (λ y. G.zero) (λ i h. refl))
  sum_swap (suc n) k f =
      ap (λ x. x ⊕ sum G k (λ y. f n y)) (sum_swap n k f) ∙ sym (sum-plus k (λ y. sum G n (λ x. f x y)) (λ y. f n y))

  -- the first apart
  pub sum_first : (n : ℕ) (f : ℕ → A) → sum G (suc n) f ≡ f 0 ⊕ sum G n (λ k. f (suc k))
  sum_first zero f = left_neutral (f 0) ∙ sym (laws.neutral (f 0))
  sum_first (suc n) f = ap (λ z. z ⊕ f (suc n)) (sum_first n f) ∙ laws.assoc (f 0) (sum G n (λ k. f (suc k))) (f (suc n))
