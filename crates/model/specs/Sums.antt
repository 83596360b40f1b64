-- Amounts that count only where a test passes, and sums over ranges and areas. Assumes nothing.
use Rattle.std.specs.Prelude.{ℕ, zero, suc, Bool, true, false}
use Rattle.amount.specs.Additions.{Addition}

module _ {A : Type 0} (G : Addition A) where
  -- the amount where the test passes, and nothing where it fails
  abbrev pub gate : Bool → A → A
  gate true a = a
  gate false a = G.zero

  -- f 0 + f 1 + .. + f (n - 1)
  abbrev pub sum : ℕ → (ℕ → A) → A
  sum zero f = G.zero
  sum (suc n) f = G.◌⊕◌ (sum n f) (f n)

  -- the sum over the cells of a grid w wide and h high
  abbrev pub area : ℕ → ℕ → (ℕ → ℕ → A) → A
  area w h f = sum w (λ x. sum h (λ y. f x y))
