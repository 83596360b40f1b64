-- One composite step: fluxes, flux registers, reflux, restriction, and the two substeps of each finer level.
use Rattle.std.specs.Prelude.{◌≡◌, ℕ, zero, suc, pred, ◌*◌, ◌/◌, Bool, true, cond, ◌&&◌, ◌||◌, nat_lt}
use Rattle.amount.specs.Additions.{Addition}
use Rattle.grid.specs.declared.side.Side.TheVariants.{West, East, South, North}
use Rattle.grid.specs.Sizes.{level_width, level_height}
use Rattle.grid.specs.Hierarchies.{Hierarchy, live, leaf}
use Rattle.model.specs.declared.direction.Direction.{Direction}
use Rattle.model.specs.Fields.{Field, Fields, write}
use Rattle.model.specs.Sums.{gate, sum}
use Rattle.model.specs.Groups.{Amounts, minus}
use Rattle.model.specs.Interfaces.{Flux, Children, child}

-- Amounts on the faces of one level. over_x X Y is on the face between (X - 1, Y) and (X, Y), counted eastward;
-- over_y X Y is on the face between (X, Y - 1) and (X, Y), counted northward.
pub record Faces (A : Type 0) : Type 0 where
  pub over_x : Field A
  pub over_y : Field A

-- A row or a column of one level as its fluxes see it, cells counted from its low end: how many cells there are, which are live,
-- what each holds, what one that is not live counts as, and the flux between two cells, into the first and into the last.
pub record Line (A : Type 0) : Type 0 where
  pub size : ℕ
  pub alive : ℕ → Bool
  pub content : ℕ → A
  pub outer : ℕ → A
  pub between : A → A → A
  pub low : A → A
  pub high : A → A

-- what a flux sees of a cell: its content if it is live, else its own child in the split of its parent
unfoldable pub seen : {A : Type 0} → Line A → ℕ → A
seen n i = cond (n.alive i) (n.content i) (n.outer i)

module _ {A : Type 0} (G : Amounts A) where
  open G use {addition, negation}

  -- The flux over face i of a line, between the cells i - 1 and i, from low to high. At its two ends it is the boundary flux, which is
  -- told inward; a face without a live cell has none.
  unfoldable pub flux : Line A → ℕ → A
  flux n zero = gate addition (n.alive zero) (n.low (n.content zero))
  flux n (suc i) =
      cond (nat_lt (suc i) n.size)
      (gate addition (n.alive i || n.alive (suc i)) (n.between (seen n i) (seen n (suc i))))
      (negation (gate addition (n.alive i) (n.high (n.content i))))

module _ {A : Type 0} (G : Amounts A) (M : Hierarchy) (F : Flux A) (split : A → Children A) (steps : ℕ) where
  -- row y of level l, from the level before, b, and the coarser level before, cb
  unfoldable pub row : ℕ → Field A → Field A → ℕ → Line A
  row l cb b y = record {
    size = level_width M.size l;
    alive = λ x. live M l x y;
    content = λ x. b x y;
    outer = λ x. child (split (cb (x / 2) (y / 2))) x y;
    between = F.interior l Direction.East;
    low = F.boundary l West y steps;
    high = F.boundary l East y steps;
  }

  -- column x of level l, from the same
  unfoldable pub column : ℕ → Field A → Field A → ℕ → Line A
  column l cb b x = record {
    size = level_height M.size l;
    alive = λ y. live M l x y;
    content = λ y. b x y;
    outer = λ y. child (split (cb (x / 2) (y / 2))) x y;
    between = F.interior l Direction.North;
    low = F.boundary l South x steps;
    high = F.boundary l North x steps;
  }

  -- one flux for each face of level l, from before
  unfoldable pub fluxes : ℕ → Field A → Field A → Faces A
  fluxes l cb b = record {
    over_x = λ x y. flux G (row l cb b y) x;
    over_y = λ x y. flux G (column l cb b x) y;
  }

module _ {A : Type 0} (G : Amounts A) where
  open G use {addition}
  open addition use {◌⊕◌}

  infixl 60 ◌⊕◌
  -- what came in less what went out of each cell
  unfoldable pub gain : Faces A → Field A
  gain f x y = minus G (f.over_x x y) (f.over_x (suc x) y) ⊕ minus G (f.over_y x y) (f.over_y x (suc y))

module _ {A : Type 0} (G : Amounts A) (M : Hierarchy) (F : Flux A) (split : A → Children A) (steps : ℕ) where
  open G use {addition}
  open addition use {◌⊕◌}

  infixl 60 ◌⊕◌
  -- Every live cell of level l becomes its content before plus what came in less what went out.
  unfoldable pub advance : ℕ → Field A → Field A → Field A
  advance l cb b x y = cond (live M l x y) (b x y ⊕ gain G (fluxes G M F split steps l cb b) x y) (b x y)

module _ {A : Type 0} (G : Addition A) where
  open G use {◌⊕◌}

  infixl 60 ◌⊕◌
  -- what crossed the two halves of each face, from the faces of the finer level
  unfoldable pub halves : Faces A → Faces A
  halves f = record {
    over_x = λ x y. f.over_x (2 * x) (2 * y) ⊕ f.over_x (2 * x) (suc (2 * y));
    over_y = λ x y. f.over_y (2 * x) (2 * y) ⊕ f.over_y (suc (2 * x)) (2 * y);
  }

module _ {A : Type 0} (G : Amounts A) where
  open G use {addition, negation}
  open addition use {zero as nought, ◌⊕◌}

  infixl 60 ◌⊕◌
  -- The flux register of face i of a line, only between a covered and an uncovered live cell: minus the face's own flux, plus what
  -- crossed its halves.
  unfoldable pub flux_register : (covered leaves : ℕ → Bool) (own finer : ℕ → A) → ℕ → A
  flux_register covered leaves own finer zero = nought
  flux_register covered leaves own finer (suc i) =
      gate addition (covered i && leaves (suc i) || leaves i && covered (suc i)) (negation (own (suc i)) ⊕ finer (suc i))

module _ {A : Type 0} (G : Amounts A) (M : Hierarchy) where
  open G use {addition}
  open addition use {◌⊕◌}

  infixl 60 ◌⊕◌
  -- the flux registers of level l, from its own fluxes and those of the two substeps of level l + 1
  unfoldable pub flux_registers : ℕ → (own first second : Faces A) → Faces A
  flux_registers l own first second = record {
    over_x = λ x y. flux_register G (λ i. M.covered l i y) (λ i. leaf M l i y) (λ i. own.over_x i y)
        (λ i. (halves addition first).over_x i y ⊕ (halves addition second).over_x i y) x;
    over_y = λ x y. flux_register G (λ i. M.covered l x i) (λ i. leaf M l x i) (λ i. own.over_y x i)
        (λ i. (halves addition first).over_y x i ⊕ (halves addition second).over_y x i) y;
  }

  -- Each flux register is added to its uncovered cell if that is the high one, else subtracted.
  unfoldable pub reflux : ℕ → Faces A → Field A → Field A
  reflux l r v x y = cond (leaf M l x y) (v x y ⊕ gain G r x y) (v x y)

module _ {A : Type 0} (G : Addition A) where
  open G use {◌⊕◌}

  infixl 60 ◌⊕◌
  -- the sum of what the four children of a cell hold, in the field of their level
  unfoldable pub children_sum : Field A → Field A
  children_sum f x y = f (2 * x) (2 * y) ⊕ f (suc (2 * x)) (2 * y) ⊕ f (2 * x) (suc (2 * y)) ⊕ f (suc (2 * x)) (suc (2 * y))

  -- each covered cell becomes the sum of its children
  unfoldable pub restrict : Hierarchy → ℕ → Field A → Field A → Field A
  restrict M l finer v x y = cond (M.covered l x y) (children_sum finer x y) (v x y)

module _ {A : Type 0} (G : Amounts A) (M : Hierarchy) (F : Flux A) (split : A → Children A) (steps : ℕ) where
  open G use {addition}
  open addition use {zero as nought, ◌⊕◌}

  infixl 60 ◌⊕◌
  -- A level step on level l, the coarsest of d levels: advance, two substeps of level l + 1, reflux, restriction.
  unfoldable pub level_step : (d l : ℕ) → Field A → Fields A → Fields A
  level_step zero l cb u = u
  level_step (suc d) l cb u =
      let first : Fields A = level_step d (suc l) (u l) u in
      let second : Fields A = level_step d (suc l) (u l) first in
      let over : ℕ → Field A → Field A → Faces A = fluxes G M F split steps in
      let registers : Faces A = flux_registers G M l (over l cb (u l)) (over (suc l) (u l) (u (suc l))) (over (suc l) (u l) (first (suc l))) in
      write l (restrict addition M l (second (suc l)) (reflux G M l registers (advance G M F split steps l cb (u l)))) second

  -- A step is one level step on level 0. Every cell of the grid is live there, so that no coarser level is asked.
  unfoldable pub step : (L : ℕ) → Fields A → Fields A
  step L u = level_step L 0 (λ x y. nought) u

  -- the boundary fluxes at the live uncovered cells of level l
  unfoldable pub boundary_inward : ℕ → Field A → A
  boundary_inward l b =
      let w : ℕ = level_width M.size l in
      let h : ℕ = level_height M.size l in
      sum addition h (λ y. gate addition (leaf M l 0 y) (F.boundary l West y steps (b 0 y))
      ⊕ gate addition (leaf M l (pred w) y) (F.boundary l East y steps (b (pred w) y)))
      ⊕ sum addition w (λ x. gate addition (leaf M l x 0) (F.boundary l South x steps (b x 0))
      ⊕ gate addition (leaf M l x (pred h)) (F.boundary l North x steps (b x (pred h))))

  -- the inward amount of a level step: the sum over all the level steps in it
  unfoldable pub inward : (d l : ℕ) → Fields A → A
  inward zero l u = nought
  inward (suc d) l u = boundary_inward l (u l) ⊕ (inward d (suc l) u ⊕ inward d (suc l) (level_step d (suc l) (u l) u))

-- each covered cell holds the sum of its children
abbrev pub Restricted : {A : Type 0} → Addition A → Hierarchy → Fields A → Type 0
Restricted G M u = (l x y : ℕ) → M.covered l x y ≡ true → u l x y ≡ children_sum G (u (suc l)) x y
