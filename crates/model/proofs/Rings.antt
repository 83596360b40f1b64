-- Tests of rings and children.
use Rattle.std.proofs.Common.{◌≡◌, ℕ, suc, pred, ◌+◌, ◌*◌, ◌/◌, ◌%◌, ◌<◌, ◌≤◌, Bool, true, false, not, ◌||◌, eqb, leb, sym, refl, subst, subst₂, inl, inr, arith}
use native.Mathlib.Decide.{ℕ_discrete, dec_lt}
use Rattle.std.proofs.lemmas.Bool.{and_parts, or_right, or_cases, leb-true, le-leb, ltb-true, lt-ltb, eqb-true, eq-eqb, and_from, or_left, not_from_false, false_from_ne_true, both_ways, not-true}
use Rattle.grid.specs.Cells.{near, touching}
use Rattle.model.specs.Rings.{some_near, ring_some, ring_every, child_some}

so_negated : (b : Bool) → (b ≡ true → ⊥) → not b ≡ true
so_negated b h = not_from_false b (false_from_ne_true b h)

negated_so : (b : Bool) → not b ≡ true → b ≡ true → ⊥
negated_so b h e = both_ways b (not-true b h) e

near_of : (a b : ℕ) → near a b ≡ true → (a ≤ suc b) × (b ≤ suc a)
near_of a b e = let p = and_parts (leb a (b + 1)) (leb b (a + 1)) e in (omega (arith, leb-true a (b + 1) p.0), omega (arith, leb-true b (a + 1) p.1))

near_so : (a b : ℕ) → a ≤ suc b → b ≤ suc a → near a b ≡ true
near_so a b h g = and_from _ _ (le-leb a (b + 1) (omega arith)) (le-leb b (a + 1) (omega arith))

pub touching_so : (x y X Y : ℕ) → x ≤ suc X → X ≤ suc x → y ≤ suc Y → Y ≤ suc y → (x ≡ X → y ≡ Y → ⊥) → touching x y X Y ≡ true
touching_so x y X Y a b c d h =
    and_from _ _ (and_from _ _ (near_so x X a b) (near_so y Y c d)) (so_negated _ (λ e. let p = and_parts (eqb x X) (eqb y Y) e in h (eqb-true x X p.0) (eqb-true y Y p.1)))

pub touching_sym : (x y X Y : ℕ) → touching x y X Y ≡ true → touching X Y x y ≡ true
touching_sym x y X Y e =
    let p = and_parts _ _ e in
    let q = and_parts _ _ p.0 in
    let v = near_of x X q.0 in
    let w = near_of y Y q.1 in
    touching_so X Y x y v.1 v.0 w.1 w.0 (λ a b. negated_so _ p.1 (and_from _ _ (eq-eqb _ _ (sym a)) (eq-eqb _ _ (sym b))))

some_near_so : (x X : ℕ) (p : ℕ → Bool) → near x X ≡ true → p X ≡ true → some_near x p ≡ true
unfolding some_near
some_near_so x X p b e =
    let h = near_of x X b in
    elim (ℕ_discrete X x) [
      | yes q ↦ or_left _ _ (or_right (p (pred x)) _ (subst (λ z. p z ≡ true) q e))
      | no q ↦ elim (dec_lt X x) [
        | yes g ↦ or_left _ _ (or_left _ _ (subst (λ z. p z ≡ true) (before X x g h.0) e))
        | no g ↦ or_right (p (pred x) || p x) _ (subst (λ z. p z ≡ true) (behind X x q g h.1) e)
      ]
    ]
  where
    before : (X x : ℕ) → X < x → x ≤ suc X → X ≡ pred x
    before X x h g = omega arith

    behind : (X x : ℕ) → ¬ (X ≡ x) → ¬ (X < x) → X ≤ suc x → X ≡ suc x
    behind X x h g k = omega arith

some_near_of : (x : ℕ) (p : ℕ → Bool) → some_near x p ≡ true → (X : ℕ) × (p X ≡ true)
unfolding some_near
some_near_of x p e =
    elim (or_cases (p (pred x) || p x) _ e) [
      | inl e' ↦ elim (or_cases (p (pred x)) _ e') [ inl q ↦ (pred x, q) | inr q ↦ (x, q) ]
      | inr q ↦ (suc x, q)
    ]

module _ (w h : ℕ) (p : ℕ → ℕ → Bool) (x y : ℕ) where
  pub ring_some_so : (X Y : ℕ) → X < w → Y < h → touching x y X Y ≡ true → p X Y ≡ true → ring_some w h p x y ≡ true
  unfolding ring_some
  ring_some_so X Y hx hy t e =
      let q = and_parts _ _ (and_parts _ _ t).0 in
      some_near_so x X _ q.0 (some_near_so y Y _ q.1 (and_from _ _ (and_from _ _ (and_from _ _ (lt-ltb _ _ hx) (lt-ltb _ _ hy)) t) e))

  pub ring_some_of : ring_some w h p x y ≡ true
      → (X : ℕ) × (Y : ℕ) × (X < w) × (Y < h) × (touching x y X Y ≡ true) × (p X Y ≡ true)
  unfolding ring_some
  ring_some_of e =
      let r = some_near_of x _ e in
      let s = some_near_of y _ r.1 in
      let a = and_parts _ _ s.1 in
      let b = and_parts _ _ a.0 in
      let c = and_parts _ _ b.0 in
      (r.0, s.0, ltb-true _ _ c.0, ltb-true _ _ c.1, b.1, a.1)

pub ring_every_so : (w h : ℕ) (p : ℕ → ℕ → Bool) (x y : ℕ)
    → ((X Y : ℕ) → X < w → Y < h → touching x y X Y ≡ true → p X Y ≡ true) → ring_every w h p x y ≡ true
unfolding ring_every
ring_every_so w h p x y f =
    so_negated _ (λ e. let r = ring_some_of w h (λ X Y. not (p X Y)) x y e in negated_so _ r.5 (f r.0 r.1 r.2 r.3 r.4))

pub ring_every_of : (w h : ℕ) (p : ℕ → ℕ → Bool) (x y : ℕ) → ring_every w h p x y ≡ true
    → (X Y : ℕ) → X < w → Y < h → touching x y X Y ≡ true → p X Y ≡ true
unfolding ring_every
ring_every_of w h p x y e X Y hx hy t =
    by (p X Y) (λ n. negated_so _ e (ring_some_so w h (λ X Y. not (p X Y)) x y X Y hx hy t n))
  where
    by : (b : Bool) → (not b ≡ true → ⊥) → b ≡ true
    by true f = refl
    by false f = absurd (f refl)

-- a child passes, so some child of its parent does
pub child_some_so : (p : ℕ → ℕ → Bool) (X Y : ℕ) → p X Y ≡ true → child_some p (X / 2) (Y / 2) ≡ true
unfolding child_some
child_some_so p X Y e =
    elim (ℕ_discrete (Y % 2) 0) [
      | yes b ↦ elim (ℕ_discrete (X % 2) 0) [
        | yes a ↦ or_left _ _ (or_left _ _ (or_left _ _ (at (evens X a) (evens Y b))))
        | no a ↦ or_left _ _ (or_left _ _ (or_right _ _ (at (odds X a) (evens Y b))))
      ]
      | no b ↦ elim (ℕ_discrete (X % 2) 0) [
        | yes a ↦ or_left _ _ (or_right _ _ (at (evens X a) (odds Y b)))
        | no a ↦ or_right _ _ (at (odds X a) (odds Y b))
      ]
    ]
  where
    evens : (X : ℕ) → X % 2 ≡ 0 → X ≡ 2 * (X / 2)
    evens X h = omega arith

    odds : (X : ℕ) → ¬ (X % 2 ≡ 0) → X ≡ suc (2 * (X / 2))
    odds X h = omega arith

    at : {a b : ℕ} → X ≡ a → Y ≡ b → p a b ≡ true
    at u v = subst₂ (λ i j. p i j ≡ true) u v e
