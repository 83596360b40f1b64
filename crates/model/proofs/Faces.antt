-- What the uncovered cells of a line gain by its fluxes and flux registers.
use Rattle.std.proofs.Common.{◌≡◌, ℕ, zero, suc, pred, ◌<◌, Bool, true, false, not, ◌&&◌, ◌||◌, sym, refl, ap, ◌∙◌, ap₂, true≢false, arith}
use Rattle.std.proofs.lemmas.Bool.{false_from_ne_true, and_left}
use mathlib.Core.Bool.{false≢true}
use Rattle.model.specs.Sums.{gate, sum}
use Rattle.model.specs.Groups.{Amounts, Group, minus}
use Rattle.model.specs.Step.{flux_register}
use Rattle.model.proofs.Sums.{gate_none, left_neutral, sum-cong, sum_same, sum-plus}
use Rattle.model.proofs.Groups.{neg_nought, neg_neg, cancel, by_parts, jump}

-- which cells of a line are live and uncovered
abbrev pub leaves : (live cov : ℕ → Bool) → ℕ → Bool
leaves live cov i = live i && not (cov i)

module _ {A : Type 0} (G : Amounts A) where
  open G use {addition, negation as neg}
  open addition use {◌⊕◌}

  infixl 60 ◌⊕◌
  -- what a face holds after the level's fluxes and the reflux: φ is its flux, F what crossed its halves
  abbrev face : (ci cj li lj : Bool) (φ F : A) → A
  face ci cj li lj φ F = φ ⊕ gate addition (ci && (lj && not cj) || li && not ci && cj) (neg φ ⊕ F)

  -- the flux of a face and its flux register
  abbrev pub moved : (live cov : ℕ → Bool) (φ F : ℕ → A) → ℕ → A
  moved live cov φ F i = φ i ⊕ flux_register G cov (leaves live cov) φ F i

  -- A line, of n cells: φ are its fluxes, F what crossed the halves of its faces.
  pub record IsLine (n : ℕ) (live cov : ℕ → Bool) (φ : ℕ → A) (low high : A) : Type 0 where
    pub itself : (i : ℕ) → cov i ≡ true → live i ≡ true
    pub up : (i : ℕ) → cov i ≡ true → suc i < n → live (suc i) ≡ true
    pub down : (i : ℕ) → cov (suc i) ≡ true → live i ≡ true
    pub ends : live n ≡ false
    pub low_end : φ 0 ≡ gate addition (live 0) low
    pub high_end : (k : ℕ) → n ≡ suc k → φ (suc k) ≡ neg (gate addition (live k) high)

  -- what crosses into the cells of m over the faces between two cells of a grid, along its lines of n cells, k of them
  unfoldable pub edge : (n k : ℕ) (m : ℕ → ℕ → Bool) (φ : ℕ → ℕ → A) → A
  edge n k m φ = sum addition k (λ y. sum addition (pred n) (jump G (λ x. m x y) (λ x. φ x y)))

module _ {A : Type 0} (G : Amounts A) (laws : Group G) where
  open G use {addition, negation as neg}
  open addition use {zero as nought, ◌⊕◌}
  open laws use {sums, inverse as opposite}
  open sums use {assoc, comm, neutral as right_neutral}

  infixl 60 ◌⊕◌
  none : (a b : A) → minus G nought nought ⊕ minus G a a ≡ minus G b b
  none a b = ap₂ ◌⊕◌ (opposite nought) (opposite a) ∙ left_neutral addition sums nought ∙ sym (opposite b)

  high_one : (φ F : A) → minus G (φ ⊕ (neg φ ⊕ F)) nought ⊕ minus G nought F ≡ minus G φ φ
  high_one φ F =
      ap₂ ◌⊕◌ (ap₂ ◌⊕◌ (cancel G laws φ F) (neg_nought G laws) ∙ right_neutral F) (left_neutral addition sums (neg F)) ∙ opposite F ∙ sym (opposite φ)

  low_one : (φ F : A) → minus G nought (φ ⊕ (neg φ ⊕ F)) ⊕ minus G F nought ≡ minus G φ φ
  low_one φ F =
      ap₂ ◌⊕◌ (left_neutral addition sums _ ∙ ap neg (cancel G laws φ F)) (ap (λ x. F ⊕ x) (neg_nought G laws) ∙ right_neutral F)
      ∙ comm (neg F) F ∙ opposite F ∙ sym (opposite φ)

  plain : (li lj : Bool) (φ f : A) → f ≡ φ
      → minus G (gate addition (lj && true) f) (gate addition (li && true) f) ⊕ minus G nought nought ≡ minus G (gate addition lj φ) (gate addition li φ)
  plain true true φ f e = ap₂ ◌⊕◌ (ap₂ (minus G) e e) (opposite nought) ∙ right_neutral _
  plain true false φ f e = ap₂ ◌⊕◌ (ap₂ (minus G) refl e) (opposite nought) ∙ right_neutral _
  plain false true φ f e = ap₂ ◌⊕◌ (ap₂ (minus G) e refl) (opposite nought) ∙ right_neutral _
  plain false false φ f e = ap₂ ◌⊕◌ refl (opposite nought) ∙ right_neutral _

  -- One face between the cells i and j, i the low one: c says covered, l live.
  face_balance : (ci cj li lj : Bool) (φ F : A)
      → (ci ≡ true → li ≡ true) → (ci ≡ true → lj ≡ true) → (cj ≡ true → li ≡ true) → (cj ≡ true → lj ≡ true)
      → minus G (gate addition (lj && not cj) (face G ci cj li lj φ F)) (gate addition (li && not ci) (face G ci cj li lj φ F))
      ⊕ minus G (gate addition cj F) (gate addition ci F)
      ≡ minus G (gate addition lj φ) (gate addition li φ)
  face_balance true true true true φ F h₁ h₂ h₃ h₄ = none F φ
  face_balance true false true true φ F h₁ h₂ h₃ h₄ = high_one φ F
  face_balance false true true true φ F h₁ h₂ h₃ h₄ = low_one φ F
  face_balance true true false lj φ F h₁ h₂ h₃ h₄ = absurd (false≢true (h₁ refl))
  face_balance true true true false φ F h₁ h₂ h₃ h₄ = absurd (false≢true (h₂ refl))
  face_balance true false false lj φ F h₁ h₂ h₃ h₄ = absurd (false≢true (h₁ refl))
  face_balance true false true false φ F h₁ h₂ h₃ h₄ = absurd (false≢true (h₂ refl))
  face_balance false true false lj φ F h₁ h₂ h₃ h₄ = absurd (false≢true (h₃ refl))
  face_balance false true true false φ F h₁ h₂ h₃ h₄ = absurd (false≢true (h₄ refl))
  face_balance false false true true φ F h₁ h₂ h₃ h₄ = plain true true φ _ (right_neutral φ)
  face_balance false false true false φ F h₁ h₂ h₃ h₄ = plain true false φ _ (right_neutral φ)
  face_balance false false false true φ F h₁ h₂ h₃ h₄ = plain false true φ _ (right_neutral φ)
  face_balance false false false false φ F h₁ h₂ h₃ h₄ = plain false false φ _ (right_neutral φ)

  low_boundary : (l c : Bool) (φ a : A) → φ ≡ gate addition l a → gate addition (l && not c) (φ ⊕ nought) ≡ gate addition (l && not c) a
  low_boundary true true φ a e = refl
  low_boundary true false φ a e = right_neutral φ ∙ e
  low_boundary false c φ a e = refl

  high_boundary : (ci cj li lj : Bool) (φ F a : A) → lj ≡ false → cj ≡ false → φ ≡ neg (gate addition li a)
      → neg (gate addition (li && not ci) (face G ci cj li lj φ F)) ≡ gate addition (li && not ci) a
  high_boundary ci true li lj φ F a h₁ h₂ e = absurd (true≢false h₂)
  high_boundary ci false li true φ F a h₁ h₂ e = absurd (true≢false h₁)
  high_boundary true false true false φ F a h₁ h₂ e = neg_nought G laws
  high_boundary false false true false φ F a h₁ h₂ e = ap neg (right_neutral φ ∙ e) ∙ neg_neg G laws a
  high_boundary true false false false φ F a h₁ h₂ e = neg_nought G laws
  high_boundary false false false false φ F a h₁ h₂ e = neg_nought G laws

  none_covered : (n : ℕ) (live cov : ℕ → Bool) → ((i : ℕ) → cov i ≡ true → live i ≡ true) → live n ≡ false → cov n ≡ false
  none_covered n live cov h e = false_from_ne_true (cov n) (λ t. false≢true (sym e ∙ h n t))

  pub line_balance : (n : ℕ) (live cov : ℕ → Bool) (φ F : ℕ → A) (low high : A) → IsLine G n live cov φ low high
      → sum addition n (λ i. gate addition (leaves live cov i) (minus G (moved G live cov φ F i) (moved G live cov φ F (suc i)))) ⊕ sum addition (pred n) (jump G cov F)
      ≡ (gate addition (leaves live cov 0) low ⊕ gate addition (leaves live cov (pred n)) high) ⊕ sum addition (pred n) (jump G live φ)
  unfolding flux_register
  line_balance zero live cov φ F low high d =
      left_neutral addition sums nought
      ∙ sym (right_neutral _ ∙ ap₂ ◌⊕◌ (gate_none addition sums _ low (and_left (live 0) _ d.ends)) (gate_none addition sums _ high (and_left (live 0) _ d.ends)) ∙ left_neutral addition sums nought)
  line_balance (suc k) live cov φ F low high d =
      ap (λ x. x ⊕ sum addition k (jump G cov F)) (by_parts G laws k (leaves live cov) (moved G live cov φ F))
      ∙ assoc _ _ _ ∙ ap₂ ◌⊕◌ ends_are between
    where
      ends_are : minus G (gate addition (leaves live cov 0) (moved G live cov φ F 0)) (gate addition (leaves live cov k) (moved G live cov φ F (suc k)))
          ≡ gate addition (leaves live cov 0) low ⊕ gate addition (leaves live cov k) high
      ends_are =
          ap₂ ◌⊕◌ (low_boundary (live 0) (cov 0) (φ 0) low d.low_end)
          (high_boundary (cov k) (cov (suc k)) (live k) (live (suc k)) (φ (suc k)) (F (suc k)) high d.ends
          (none_covered (suc k) live cov d.itself d.ends) (d.high_end k refl))

      at_face : (i : ℕ) → i < k
          → jump G (leaves live cov) (moved G live cov φ F) i ⊕ jump G cov F i ≡ jump G live φ i
      at_face i h =
          face_balance (cov i) (cov (suc i)) (live i) (live (suc i)) (φ (suc i)) (F (suc i))
          (d.itself i) (λ t. d.up i t (omega arith)) (d.down i) (d.itself (suc i))

      between : sum addition k (jump G (leaves live cov) (moved G live cov φ F)) ⊕ sum addition k (jump G cov F) ≡ sum addition k (jump G live φ)
      between =
          sym (sum-plus addition sums k (jump G (leaves live cov) (moved G live cov φ F)) (jump G cov F))
          ∙ sum-cong addition sums k _ (jump G live φ) at_face

  -- the lines of a grid
  pub lines_balance : (n k : ℕ) (live cov : ℕ → ℕ → Bool) (φ F : ℕ → ℕ → A) (low high : ℕ → A)
      → ((y : ℕ) → IsLine G n (λ x. live x y) (λ x. cov x y) (λ x. φ x y) (low y) (high y))
      → sum addition k (λ y. sum addition n (λ x. gate addition (live x y && not (cov x y))
      (minus G (moved G (λ i. live i y) (λ i. cov i y) (λ i. φ i y) (λ i. F i y) x)
      (moved G (λ i. live i y) (λ i. cov i y) (λ i. φ i y) (λ i. F i y) (suc x)))))
      ⊕ edge G n k cov F
      ≡ sum addition k (λ y. gate addition (live 0 y && not (cov 0 y)) (low y) ⊕ gate addition (live (pred n) y && not (cov (pred n) y)) (high y))
      ⊕ edge G n k live φ
  unfolding edge
  lines_balance n k live cov φ F low high d =
      sym (sum-plus addition sums k _ _)
      ∙ sum_same addition sums k _ _ (λ y. line_balance n (λ x. live x y) (λ x. cov x y) (λ x. φ x y) (λ x. F x y) (low y) (high y) (d y))
      ∙ sum-plus addition sums k _ _
