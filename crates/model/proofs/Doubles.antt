-- Sums over grids and over grids twice as fine.
use Rattle.std.proofs.Common.{◌≡◌, ℕ, zero, suc, ◌*◌, ◌/◌, Bool, true, false, refl, ap, ◌∙◌, arith}
use Rattle.amount.specs.Additions.{Addition, Sums}
use Rattle.model.specs.Sums.{gate, sum, area}
use Rattle.model.proofs.Sums.{sum_same, sum-plus}

pub half_even : (i : ℕ) → 2 * i / 2 ≡ i
half_even i = omega arith

pub half_odd : (i : ℕ) → suc (2 * i) / 2 ≡ i
half_odd i = omega arith

twice_suc : (n : ℕ) → 2 * suc n ≡ suc (suc (2 * n))
twice_suc n = omega arith

module _ {A : Type 0} (G : Addition A) (laws : Sums G) where
  open G use {zero as nought, ◌⊕◌}
  open laws use {assoc, comm, neutral}

  infixl 60 ◌⊕◌
  pub gate-plus : (b : Bool) (x y : A) → gate G b x ⊕ gate G b y ≡ gate G b (x ⊕ y)
  gate-plus true x y = refl
  gate-plus false x y = neutral nought

  -- two by two
  pub sum_twice : (n : ℕ) (f : ℕ → A) → sum G (2 * n) f ≡ sum G n (λ i. f (2 * i) ⊕ f (suc (2 * i)))
  sum_twice zero f = refl
  sum_twice (suc n) f =
      ap (λ k. sum G k f) (twice_suc n) ∙ assoc (sum G (2 * n) f) (f (2 * n)) (f (suc (2 * n)))
      ∙ ap (λ x. x ⊕ (f (2 * n) ⊕ f (suc (2 * n)))) (sum_twice n f)

  pub area-plus : (w h : ℕ) (f g : ℕ → ℕ → A) → area G w h (λ x y. f x y ⊕ g x y) ≡ area G w h f ⊕ area G w h g
  area-plus w h f g = sum_same G laws w _ _ (λ x. sum-plus G laws h (f x) (g x)) ∙ sum-plus G laws w _ _

  pub area_same : (w h : ℕ) (f g : ℕ → ℕ → A) → ((x y : ℕ) → f x y ≡ g x y) → area G w h f ≡ area G w h g
  area_same w h f g e = sum_same G laws w _ _ (λ x. sum_same G laws h _ _ (e x))
