-- What the laws give of the sum of a list. Assumes nothing.
use Rattle.std.proofs.Common.{◌≡◌, ℕ, ◌+◌, ◌<◌, List, [], ◌∷◌, ◌++◌, length, get_or, take, sym, ap, ◌∙◌}
use Rattle.std.proofs.lemmas.List.{take_more}
use Rattle.amount.specs.Additions.{Addition, Sums, sum}

module _ {A : Type 0} (G : Addition A) (laws : Sums G) where
  open G use {zero, ◌⊕◌}

  infixl 60 ◌⊕◌
  pub sum-append : (xs ys : List A) → sum G (xs ++ ys) ≡ sum G xs ⊕ sum G ys
  sum-append [] ys = sym (laws.comm zero (sum G ys) ∙ laws.neutral (sum G ys))
  sum-append (x ∷ xs) ys = ap (λ z. x ⊕ z) (sum-append xs ys) ∙ sym (laws.assoc x (sum G xs) (sum G ys))

  -- one element more
  pub sum-push : (xs : List A) (x : A) → sum G (xs ++ (x ∷ [])) ≡ sum G xs ⊕ x
  sum-push xs x = sum-append xs (x ∷ []) ∙ ap (λ z. sum G xs ⊕ z) (laws.neutral x)

  -- one element more of xs
  pub sum_more : (xs : List A) (i : ℕ) (x : A) → i < length xs → x ≡ get_or xs i x → sum G (take i xs) ⊕ x ≡ sum G (take (i + 1) xs)
  sum_more xs i x within read =
      let pushed : take (i + 1) xs ≡ take i xs ++ (x ∷ []) = take_more xs i x within ∙ ap (λ y. take i xs ++ (y ∷ [])) (sym read) in
      sym (ap (sum G) pushed ∙ sum-push (take i xs) x)
