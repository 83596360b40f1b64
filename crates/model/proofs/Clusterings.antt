-- Runs and cells keep the law of clusterings.
use Rattle.std.proofs.Common.{◌≡◌, ℕ, zero, suc, ◌+◌, ◌<◌, ◌≤◌, Bool, true, false, ◌&&◌, ◌||◌, ltb, leb, List, [], ◌∷◌, ◌++◌, length, get_or, Some, None, Option, sym, refl, ap, ◌∙◌, subst, inl, inr, true≢false, zero-le, le_refl, le_of_suc-le-suc, lt_irrefl, zero-add, arith}
use mathlib.Core.Bool.{false≢true}
use native.Mathlib.Decide.{ℕ_discrete, dec_lt}
use Rattle.std.proofs.lemmas.Bool.{and_parts, cond_both, leb-true, ltb-true, le-leb, lt-ltb, and_from, or_cases, or_left, or_right}
use Rattle.std.proofs.Math.Bool.{or_assoc}
use Rattle.grid.specs.declared.patch.Patch.{Patch}
use Rattle.grid.specs.Boxes.{no_patch, holds, held, Inside}
use Rattle.model.specs.Nesting.{AllInside}
use Rattle.model.specs.Wanted.{Clustered}
use Rattle.model.specs.Clusterings.{stretch, by_rows, row_cells, row_runs, cells, runs, ClusteringsLawful}

-- each patch of a list is inside; and holds no cell that a later one holds: patch by patch
abbrev AllInGrid : (w h : ℕ) → List Patch → Type 0
AllInGrid w h [] = Unit {0}
AllInGrid w h (p ∷ ps) = Inside w h p × AllInGrid w h ps

abbrev ApartEach : List Patch → Type 0
ApartEach [] = Unit {0}
ApartEach (p ∷ ps) = ((x y : ℕ) → holds p x y ≡ true → held ps x y ≡ true → ⊥) × ApartEach ps

all_inside : (w h : ℕ) (ps : List Patch) → AllInGrid w h ps → AllInside w h ps
all_inside w h [] a i e = absurd (omega arith)
all_inside w h (p ∷ ps) a zero e = a.0
all_inside w h (p ∷ ps) a (suc i) e = all_inside w h ps a.1 i (le_of_suc-le-suc e)

held_at : (ps : List Patch) (k x y : ℕ) → k < length ps → holds (get_or ps k no_patch) x y ≡ true → held ps x y ≡ true
held_at [] k x y h e = absurd (omega arith)
held_at (p ∷ ps) zero x y h e = or_left _ (held ps x y) e
held_at (p ∷ ps) (suc k) x y h e = or_right (holds p x y) _ (held_at ps k x y (le_of_suc-le-suc h) e)

apart_all : (ps : List Patch) → ApartEach ps → (i j x y : ℕ) → i < j → j < length ps → holds (get_or ps i no_patch) x y ≡ true
    → holds (get_or ps j no_patch) x y ≡ true → ⊥
apart_all [] a i j x y o h e f = absurd (omega arith)
apart_all (p ∷ ps) a i zero x y o h e f = absurd (omega arith)
apart_all (p ∷ ps) a zero (suc j) x y o h e f = a.0 x y e (held_at ps j x y (le_of_suc-le-suc h) f)
apart_all (p ∷ ps) a (suc i) (suc j) x y o h e f = apart_all ps a.1 i j x y (le_of_suc-le-suc o) (le_of_suc-le-suc h) e f

stretch_of : (a b y X Y : ℕ) → holds (stretch a b y) X Y ≡ true → (a ≤ X) × (X < b) × (y ≤ Y) × (Y < suc y)
stretch_of a b y X Y e =
    let p = and_parts (leb a X && ltb X b) (leb y Y && ltb Y (suc y)) e in
    let q = and_parts (leb a X) (ltb X b) p.0 in
    let r = and_parts (leb y Y) (ltb Y (suc y)) p.1 in
    (leb-true a X q.0, ltb-true X b q.1, leb-true y Y r.0, ltb-true Y (suc y) r.1)

stretch_so : (a b y X : ℕ) → a ≤ X → X < b → holds (stretch a b y) X y ≡ true
stretch_so a b y X h g = and_from _ _ (and_from _ _ (le-leb a X h) (lt-ltb X b g)) (and_from _ _ (le-leb y y (le_refl y)) (lt-ltb y (suc y) (le_refl (suc y))))

-- boxes of row y that hold its wanted cells from a column on, and nothing else
record Row (w y : ℕ) (wanted : ℕ → Bool) (from : ℕ) (bs : List Patch) : Type 0 where
  only : (X Y : ℕ) → held bs X Y ≡ true → (Y ≡ y) × (from ≤ X) × (X < w) × (wanted X ≡ true)
  full : (X : ℕ) → from ≤ X → X < w → wanted X ≡ true → held bs X y ≡ true
  apart : ApartEach bs
  in_row : (h : ℕ) → y < h → AllInGrid w h bs

module _ (w y : ℕ) (wanted : ℕ → Bool) where
  no_row : (x : ℕ) → w ≤ x → Row w y wanted x []
  no_row x h = record {
    only = λ X Y e. absurd (false≢true e);
    full = λ X i j e. absurd (lt_irrefl X (omega arith));
    apart = tt;
    in_row = λ k i. tt;
  }

  -- the cell at x isn't wanted
  passed_by : (x : ℕ) (bs : List Patch) → wanted x ≡ false → Row w y wanted (suc x) bs → Row w y wanted x bs
  passed_by x bs n r = record {
    only = λ X Y e. let p = r.only X Y e in (p.0, omega (arith, p.1), p.2, p.3);
    full = λ X i j e. elim (ℕ_discrete X x) [
      | yes q ↦ absurd (true≢false (sym e ∙ ap wanted q ∙ n))
      | no q ↦ r.full X (omega arith) j e
    ];
    apart = r.apart;
    in_row = r.in_row;
  }

  -- a stretch of wanted cells, a gap of unwanted ones, and the rest of the row
  one_more : (a x x' : ℕ) (bs : List Patch) → a < x → x ≤ w → x ≤ x' → ((i : ℕ) → a ≤ i → i < x → wanted i ≡ true)
      → ((i : ℕ) → x ≤ i → i < x' → wanted i ≡ false) → Row w y wanted x' bs → Row w y wanted a (stretch a x y ∷ bs)
  one_more a x x' bs h k g all gap r = record {
    only = λ X Y e. elim (or_cases (holds (stretch a x y) X Y) _ e) [
      | inl t ↦ let p = stretch_of a x y X Y t in
          (omega (arith, p.2, p.3), p.0, omega (arith, p.1), all X p.0 p.1)
      | inr t ↦ let p = r.only X Y t in (p.0, omega (arith, p.1), p.2, p.3)
    ];
    full = λ X i j e. elim (dec_lt X x) [
      | yes q ↦ or_left _ _ (stretch_so a x y X i q)
      | no q ↦ elim (dec_lt X x') [
        | yes q' ↦ absurd (true≢false (sym e ∙ gap X (omega arith) q'))
        | no q' ↦ or_right (holds (stretch a x y) X y) _ (r.full X (omega arith) j e)
      ]
    ];
    apart = (λ X Y s t. let p = stretch_of a x y X Y s in let q = r.only X Y t in lt_irrefl X (omega (arith, p.1, q.1)), r.apart);
    in_row = λ H i. ((h, k, le_refl (suc y), i), r.in_row H i);
  }

  only_at : (x : ℕ) (b : Bool) → wanted x ≡ b → (i : ℕ) → x ≤ i → i < suc x → wanted i ≡ b
  only_at x b t i p q = ap wanted (between i x p q) ∙ t
    where
      between : (i x : ℕ) → x ≤ i → i < suc x → i ≡ x
      between i x p q = omega arith

  cells_row : (d x : ℕ) → x + d ≡ w → Row w y wanted x (row_cells wanted y d x)
  unfolding row_cells
  cells_row zero x e = no_row x (omega arith)
  cells_row (suc d) x e =
      let r = cells_row d (suc x) (omega arith) in
      cond_both (wanted x) _ _ (Row w y wanted x)
      (λ t. one_more x (suc x) (suc x) _ (le_refl (suc x)) (omega arith) (le_refl (suc x))
      (only_at x true t) (λ i p q. absurd (lt_irrefl i (omega arith))) r)
      (λ n. passed_by x _ n r)

  -- where a run that is open starts
  abbrev Start : Option ℕ → ℕ → ℕ → Type 0
  Start None x from = from ≡ x
  Start (Some a) x from = (from ≡ a) × (a < x) × ((i : ℕ) → a ≤ i → i < x → wanted i ≡ true)

  longer : (a x : ℕ) → ((i : ℕ) → a ≤ i → i < x → wanted i ≡ true) → wanted x ≡ true → (i : ℕ) → a ≤ i → i < suc x → wanted i ≡ true
  longer a x all t i p q = elim (ℕ_discrete i x) [ yes e ↦ ap wanted e ∙ t | no n ↦ all i p (omega arith) ]

  runs_row : (d x : ℕ) (o : Option ℕ) (from : ℕ) → x + d ≡ w → Start o x from → Row w y wanted from (row_runs wanted y d x o)
  unfolding row_runs
  runs_row zero x None from e s = no_row from (omega arith)
  runs_row zero x (Some a) from e s =
      subst (λ k. Row w y wanted k (stretch a x y ∷ [])) (sym s.0)
      (one_more a x x [] s.1 (omega arith) (le_refl x) s.2 (λ i p q. absurd (lt_irrefl i (omega arith))) (no_row x (omega arith)))
  runs_row (suc d) x None from e s =
      cond_both (wanted x) _ _ (Row w y wanted from)
      (λ t. runs_row d (suc x) (Some x) from (omega arith) (s, le_refl (suc x), only_at x true t))
      (λ n. subst (λ k. Row w y wanted k (row_runs wanted y d (suc x) None)) (sym s)
      (passed_by x _ n (runs_row d (suc x) None (suc x) (omega arith) refl)))
  runs_row (suc d) x (Some a) from e s =
      cond_both (wanted x) _ _ (Row w y wanted from)
      (λ t. runs_row d (suc x) (Some a) from (omega arith) (s.0, omega (arith, s.1), longer a x s.2 t))
      (λ n. subst (λ k. Row w y wanted k (stretch a x y ∷ row_runs wanted y d (suc x) None)) (sym s.0)
      (one_more a x (suc x) _ s.1 (omega arith) (omega arith) s.2 (only_at x false n) (runs_row d (suc x) None (suc x) (omega arith) refl)))

held-append : (fs bs : List Patch) (x y : ℕ) → held (fs ++ bs) x y ≡ (held fs x y || held bs x y)
held-append [] bs x y = refl
held-append (a ∷ fs) bs x y = ap (λ b. holds a x y || b) (held-append fs bs x y) ∙ sym (or_assoc (holds a x y) (held fs x y) (held bs x y))

apart-append : (fs bs : List Patch) → ApartEach fs → ApartEach bs → ((x y : ℕ) → held fs x y ≡ true → held bs x y ≡ true → ⊥) → ApartEach (fs ++ bs)
apart-append [] bs p q d = q
apart-append (a ∷ fs) bs p q d = (
  λ x y s t. elim (or_cases (held fs x y) _ (sym (held-append fs bs x y) ∙ t)) [
    | inl i ↦ p.0 x y s i
    | inr i ↦ d x y (or_left _ _ s) i
  ],
  apart-append fs bs p.1 q (λ x y s t. d x y (or_right (holds a x y) _ s) t),
)

in_append : (w h : ℕ) (fs bs : List Patch) → AllInGrid w h fs → AllInGrid w h bs → AllInGrid w h (fs ++ bs)
in_append w h [] bs p q = q
in_append w h (a ∷ fs) bs p q = (p.0, in_append w h fs bs p.1 q)

module _ (w h : ℕ) (wanted : ℕ → ℕ → Bool) (row : ℕ → List Patch) (good : (y : ℕ) → Row w y (λ x. wanted x y) 0 (row y)) where
  record Rows (from : ℕ) (bs : List Patch) : Type 0 where
    only : (X Y : ℕ) → held bs X Y ≡ true → (from ≤ Y) × (Y < h) × (X < w) × (wanted X Y ≡ true)
    full : (X Y : ℕ) → from ≤ Y → Y < h → X < w → wanted X Y ≡ true → held bs X Y ≡ true
    apart : ApartEach bs
    in_grid : AllInGrid w h bs

  rows : (d y : ℕ) → y + d ≡ h → Rows y (by_rows row d y)
  unfolding by_rows
  rows zero y e = record {
    only = λ X Y t. absurd (false≢true t);
    full = λ X Y i j k t. absurd (lt_irrefl Y (omega arith));
    apart = tt;
    in_grid = tt;
  }
  rows (suc d) y e =
      let r = rows d (suc y) (omega arith) in
      let g = good y in
      record {
        only = λ X Y t. elim (or_cases (held (row y) X Y) _ (sym (held-append (row y) _ X Y) ∙ t)) [
          | inl s ↦ let p = g.only X Y s in
              (omega (arith, p.0), omega (arith, p.0), p.2, ap (λ z. wanted X z) p.0 ∙ p.3)
          | inr s ↦ let p = r.only X Y s in (omega (arith, p.0), p.1, p.2, p.3)
        ];
        full = λ X Y i j k t. held-append (row y) _ X Y ∙ elim (ℕ_discrete Y y) [
          | yes q ↦ or_left _ _ (subst (λ z. held (row y) X z ≡ true) (sym q) (g.full X zero-le k (ap (λ z. wanted X z) (sym q) ∙ t)))
          | no q ↦ or_right (held (row y) X Y) _ (r.full X Y (omega arith) j k t)
        ];
        apart = apart-append (row y) _ g.apart r.apart (λ X Y s t.
            let p = g.only X Y s in let q = r.only X Y t in lt_irrefl Y (omega (arith, p.0, q.0)));
        in_grid = in_append w h (row y) _ (g.in_row h (omega arith)) r.in_grid;
      }

  clustered : (nested : ℕ → ℕ → Bool) → ((x y : ℕ) → x < w → y < h → wanted x y ≡ true → nested x y ≡ true)
      → Clustered w h wanted nested (by_rows row h 0)
  clustered nested f =
      let r = rows h 0 (zero-add h) in
      record {
        in_grid = all_inside w h (by_rows row h 0) r.in_grid;
        apart = λ c. apart_all (by_rows row h 0) r.apart c.i c.j c.x c.y c.order c.in_use c.in_first c.in_second;
        only_nested = λ x y t. let p = r.only x y t in f x y p.2 p.1 p.3;
        every_wanted = λ x y i j t. r.full x y zero-le j i t;
      }

pub clusterings_lawful : ClusteringsLawful
unfolding cells runs
clusterings_lawful = (
  λ w h wanted nested. clustered w h wanted _ (λ y. cells_row w y (λ x. wanted x y) w 0 (zero-add w)) nested,
  λ w h wanted nested. clustered w h wanted _ (λ y. runs_row w y (λ x. wanted x y) w 0 None 0 (zero-add w) refl) nested,
)
