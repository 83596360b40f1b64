-- Well-laid patches make a nested hierarchy, and those that an accepted regrid lays are well laid.
use Rattle.std.proofs.Common.{◌≡◌, ℕ, zero, suc, ◌*◌, ◌/◌, ◌^◌, ◌<◌, ◌≤◌, Bool, true, false, cond, ◌||◌, eqb, List, length, sym, refl, ap, ◌∙◌, subst, lt_irrefl, arith}
use mathlib.Core.Bool.{false≢true}
use native.Mathlib.Nat.{suc_inj}
use native.Mathlib.Decide.{ℕ_discrete, dec_lt}
use lib.Dec.{eqb-suc-suc}
use Rattle.std.proofs.lemmas.Bool.{cond-true, cond-false, eq-eqb, ne_eqb, and_from, and_parts, or_left, or_right}
use Rattle.grid.specs.declared.patch.Patch.{Patch}
use Rattle.grid.specs.declared.size.Size.{Size}
use Rattle.grid.specs.Sizes.{level_width, level_height}
use Rattle.grid.specs.Boxes.{no_patch, held, Apart}
use Rattle.grid.specs.Hierarchies.{Patches, Hierarchy, laid, live}
use Rattle.grid.proofs.Cover.{holds_parts, held_decides}
use Rattle.model.specs.Fields.{Fields}
use Rattle.model.specs.Nesting.{Nested, AllInside, RingsLive, WellLaid}
use Rattle.model.specs.Rings.{ring_some}
use Rattle.model.specs.Wanted.{Flagging, Clustered, buffer, nesting, properly_nested, wanted}
use Rattle.model.specs.Regrid.{with_patches, relaid}
use Rattle.model.proofs.Grids.{width_suc, height_suc}
use Rattle.model.proofs.Rings.{touching_so, touching_sym, ring_some_so, ring_every_so, ring_every_of, child_some_so}

-- a held cell lies inside the grid that the patches lie in
held_inside : (w h : ℕ) (ps : List Patch) (x y : ℕ) → AllInside w h ps → held ps x y ≡ true → (x < w) × (y < h)
held_inside w h ps x y a e =
    let k = (held_decides ps x y).0 e in
    let p = holds_parts _ x y (k.2 no_patch) in
    let q = a k.0 k.1 in
    (omega (arith, p.1, q.1), omega (arith, p.3, q.3))

module _ (s : Size) (patches : Patches) (wl : WellLaid s patches) where
  abbrev M : Hierarchy
  M = laid s patches

  pub covered_inside : (l x y : ℕ) → M.covered l x y ≡ true → (x < level_width s l) × (y < level_height s l)
  covered_inside l x y c = held_inside _ _ (patches (suc l)) x y (wl.inside l) c

  covered_deep : (l x y : ℕ) → M.covered l x y ≡ true → suc l < s.levels
  covered_deep l x y c =
      elim (dec_lt (suc l) s.levels) [
        | yes h ↦ h
        | no h ↦ absurd (false≢true (sym (ap (λ ps. held ps x y) (wl.none_past (suc l) (omega arith))) ∙ c))
      ]

  pub nested : Nested M s.levels
  nested = record {
    itself = wl.covered_live;
    to_west = λ l x y c. let i = covered_inside l (suc x) y c in
        wl.rings_live l (suc x) y x y c (omega arith) i.1 (touching_so (suc x) y x y (omega arith) (omega arith) (omega arith) (omega arith) (λ e _. lt_irrefl x (omega arith)));
    to_east = λ l x y c h. let i = covered_inside l x y c in
        wl.rings_live l x y (suc x) y c h i.1 (touching_so x y (suc x) y (omega arith) (omega arith) (omega arith) (omega arith) (λ e _. lt_irrefl x (omega arith)));
    to_south = λ l x y c. let i = covered_inside l x (suc y) c in
        wl.rings_live l x (suc y) x y c i.0 (omega arith) (touching_so x (suc y) x y (omega arith) (omega arith) (omega arith) (omega arith) (λ _ e. lt_irrefl y (omega arith)));
    to_north = λ l x y c h. let i = covered_inside l x y c in
        wl.rings_live l x y x (suc y) c i.0 h (touching_so x y x (suc y) (omega arith) (omega arith) (omega arith) (omega arith) (λ _ e. lt_irrefl y (omega arith)));
    deep = covered_deep;
  }

  -- A covered cell is properly nested.
  covered_nested : (l x y : ℕ) → M.covered l x y ≡ true → properly_nested M l x y ≡ true
  unfolding properly_nested
  covered_nested l x y c =
      and_from _ _ (wl.covered_live l x y c) (ring_every_so _ _ (live M l) x y (λ X Y hx hy t. wl.rings_live l x y X Y c hx hy t))

  module _ {A : Type 0} (u : Fields A) (l : ℕ) (flag : Flagging A) (boxes : List Patch) (deep : suc l < s.levels)
      (cl : Clustered (level_width s l) (level_height s l) (wanted M u l flag) (properly_nested M l) boxes) (few : length boxes ≤ 128) where
    abbrev patches' : Patches
    patches' = with_patches (suc l) boxes patches

    abbrev M' : Hierarchy
    M' = laid s patches'

    at_here : patches' (suc l) ≡ boxes
    unfolding with_patches
    at_here = cond-true _ _ _ (eq-eqb (suc l) (suc l) refl)

    at_other : (k : ℕ) → (k ≡ suc l → ⊥) → patches' k ≡ patches k
    unfolding with_patches
    at_other k h = cond-false _ _ _ (ne_eqb k (suc l) h)

    pub covered_here : (x y : ℕ) → M'.covered l x y ≡ held boxes x y
    covered_here x y = ap (λ ps. held ps x y) at_here

    covered_other : (k x y : ℕ) → (k ≡ l → ⊥) → M'.covered k x y ≡ M.covered k x y
    covered_other k x y h = ap (λ ps. held ps x y) (at_other (suc k) (λ e. h (suc_inj e)))

    pub live_other : (k x y : ℕ) → (k ≡ suc l → ⊥) → live M' k x y ≡ live M k x y
    live_other zero x y h = refl
    live_other (suc k) x y h = covered_other k (x / 2) (y / 2) (λ e. h (ap suc e))

    pub live_next : (X Y : ℕ) → live M' (suc l) X Y ≡ held boxes (X / 2) (Y / 2)
    live_next X Y = covered_here (X / 2) (Y / 2)

    off : l ≡ suc l → ⊥
    off e = lt_irrefl l (omega arith)

    -- the hierarchy is the old one with the boxes' cells covered on level l
    pub relaid_is : relaid M l (held boxes) ≡ M'
    unfolding with_patches
    relaid_is = λ i. record { size = s; covered = λ k x y. at k x y i }
      where
        by : (b : Bool) (ps : List Patch) (x y : ℕ) → cond b (held boxes x y) (held ps x y) ≡ held (cond b boxes ps) x y
        by true ps x y = refl
        by false ps x y = refl

        at : (k x y : ℕ) → cond (eqb k l) (held boxes x y) (M.covered k x y) ≡ M'.covered k x y
        at k x y = ap (λ b. cond b (held boxes x y) (held (patches (suc k)) x y)) (sym (eqb-suc-suc k l)) ∙ by (eqb (suc k) (suc l)) (patches (suc k)) x y

    half_inside : (X Y : ℕ) → X < level_width s (suc l) → Y < level_height s (suc l) → (X / 2 < level_width s l) × (Y / 2 < level_height s l)
    half_inside X Y hx hy = (half X _ _ (width_suc M l) hx, half Y _ _ (height_suc M l) hy)
      where
        half : (X v w : ℕ) → v ≡ 2 * w → X < v → X / 2 < w
        half X v w e h = omega arith

    -- The parent of a cell of level l + 1 that is covered, or has a covered cell in its ring, is a nesting cell; it is covered, so properly nested,
    -- so wanted, so the boxes hold it: the cell stays live.
    kept_live : (X Y : ℕ) → X < level_width s (suc l) → Y < level_height s (suc l) → live M (suc l) X Y ≡ true
        → (M.covered (suc l) X Y || ring_some (level_width s (suc l)) (level_height s (suc l)) (M.covered (suc l)) X Y) ≡ true
        → live M' (suc l) X Y ≡ true
    unfolding nesting wanted
    kept_live X Y hx hy v n =
        let i = half_inside X Y hx hy in
        live_next X Y
        ∙ cl.every_wanted (X / 2) (Y / 2) i.0 i.1
        (and_from _ _
        (or_right (buffer M u l flag (X / 2) (Y / 2)) _
        (child_some_so (λ a b. M.covered (suc l) a b || ring_some (level_width s (suc l)) (level_height s (suc l)) (M.covered (suc l)) a b) X Y n))
        (covered_nested l (X / 2) (Y / 2) v))

    covered_live' : (k x y : ℕ) → M'.covered k x y ≡ true → live M' k x y ≡ true
    unfolding properly_nested
    covered_live' k x y c =
        elim (ℕ_discrete k l) [
          | yes e ↦ subst (λ j. live M' j x y ≡ true) (sym e)
              (live_other l x y off
              ∙ (and_parts _ _ (cl.only_nested x y (sym (covered_here x y) ∙ subst (λ j. M'.covered j x y ≡ true) e c))).0)
          | no h ↦ elim (ℕ_discrete k (suc l)) [
            | yes e ↦ subst (λ j. live M' j x y ≡ true) (sym e) (next x y (subst (λ j. M.covered j x y ≡ true) e (sym (covered_other k x y h) ∙ c)))
            | no g ↦ live_other k x y g ∙ wl.covered_live k x y (sym (covered_other k x y h) ∙ c)
          ]
        ]
      where
        next : (x y : ℕ) → M.covered (suc l) x y ≡ true → live M' (suc l) x y ≡ true
        next x y c = let i = covered_inside (suc l) x y c in kept_live x y i.0 i.1 (wl.covered_live (suc l) x y c) (or_left _ _ c)

    rings_live' : RingsLive M'
    unfolding properly_nested
    rings_live' k x y X Y c hx hy t =
        elim (ℕ_discrete k l) [
          | yes e ↦ subst (λ j. live M' j X Y ≡ true) (sym e)
              (live_other l X Y off
              ∙ ring_every_of (level_width s l) (level_height s l) (live M l) x y
              (and_parts _ _ (cl.only_nested x y (sym (covered_here x y) ∙ subst (λ j. M'.covered j x y ≡ true) e c))).1
              X Y (subst (λ j. X < s.width * 2 ^ j) e hx) (subst (λ j. Y < s.height * 2 ^ j) e hy) t)
          | no h ↦ elim (ℕ_discrete k (suc l)) [
            | yes e ↦ subst (λ j. live M' j X Y ≡ true) (sym e)
                (next (subst (λ j. M.covered j x y ≡ true) e (sym (covered_other k x y h) ∙ c))
                (subst (λ j. X < s.width * 2 ^ j) e hx) (subst (λ j. Y < s.height * 2 ^ j) e hy))
            | no g ↦ live_other k X Y g ∙ wl.rings_live k x y X Y (sym (covered_other k x y h) ∙ c) hx hy t
          ]
        ]
      where
        next : M.covered (suc l) x y ≡ true → X < level_width s (suc l) → Y < level_height s (suc l) → live M' (suc l) X Y ≡ true
        next c hx hy =
            let i = covered_inside (suc l) x y c in
            kept_live X Y hx hy (wl.rings_live (suc l) x y X Y c hx hy t)
            (or_right (M.covered (suc l) X Y) _
            (ring_some_so (level_width s (suc l)) (level_height s (suc l)) (M.covered (suc l)) X Y x y i.0 i.1 (touching_sym x y X Y t) c))

    -- what holds of the boxes and of the old patches holds of the new
    each : (P : ℕ → List Patch → Type 0) → P (suc l) boxes → ((k : ℕ) → P k (patches k)) → (k : ℕ) → P k (patches' k)
    each P p q k =
        elim (ℕ_discrete k (suc l)) [
          | yes e ↦ subst (λ j. P j (patches' j)) (sym e) (subst (P (suc l)) (sym at_here) p)
          | no h ↦ subst (P k) (sym (at_other k h)) (q k)
        ]

    pub laid_again : WellLaid s patches'
    laid_again = record {
      inside = λ k. elim (ℕ_discrete k l) [
        | yes e ↦ subst (λ j. AllInside (level_width s j) (level_height s j) (patches' (suc j))) (sym e)
            (subst (AllInside (level_width s l) (level_height s l)) (sym at_here) cl.in_grid)
        | no h ↦ subst (AllInside (level_width s k) (level_height s k)) (sym (at_other (suc k) (λ e. h (suc_inj e)))) (wl.inside k)
      ];
      apart = each (λ _ ps. Apart ps) cl.apart wl.apart;
      few = each (λ _ ps. length ps ≤ 128) few wl.few;
      none_past = λ k h. at_other k (λ e. lt_irrefl k (omega arith)) ∙ wl.none_past k h;
      covered_live = covered_live';
      rings_live = rings_live';
    }
