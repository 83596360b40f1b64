-- Zero and addition, the laws that they keep, and what a list of amounts comes to. Assumes nothing.
use Rattle.std.specs.Prelude.{◌≡◌, List, [], ◌∷◌}

-- what adding up needs of a kind of amount: the operations, without their laws
pub record Addition (A : Type 0) : Type 0 where
  pub zero : A
  pub ◌⊕◌ : A → A → A

-- Addition is associative and commutative, and zero is neutral.
pub record Sums {A : Type 0} (G : Addition A) : Type 0 where
  pub assoc : (x y z : A) → G.◌⊕◌ (G.◌⊕◌ x y) z ≡ G.◌⊕◌ x (G.◌⊕◌ y z)
  pub comm : (x y : A) → G.◌⊕◌ x y ≡ G.◌⊕◌ y x
  pub neutral : (x : A) → G.◌⊕◌ x G.zero ≡ x

-- the sum of a list
abbrev pub sum : {A : Type 0} → Addition A → List A → A
sum G [] = G.zero
sum G (x ∷ xs) = G.◌⊕◌ x (sum G xs)
