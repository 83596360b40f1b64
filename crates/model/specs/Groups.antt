-- Amounts with a negation, and the laws that they keep.
use Rattle.std.specs.Prelude.{◌≡◌}
use Rattle.amount.specs.Additions.{Addition, Sums}

-- what a step needs of a kind of amount: the operations, without their laws
pub record Amounts (A : Type 0) : Type 0 where
  pub addition : Addition A
  pub negation : A → A

-- Zero and addition keep their laws, and an amount plus its negation is zero.
pub record Group {A : Type 0} (G : Amounts A) : Type 0 where
  pub sums : Sums G.addition
  pub inverse : (x : A) → G.addition.◌⊕◌ x (G.negation x) ≡ G.addition.zero

-- an amount less another
abbrev pub minus : {A : Type 0} → Amounts A → A → A → A
minus G a b = G.addition.◌⊕◌ a (G.negation b)
