-- Live cells lie inside the grid; the rows and columns of a level as lines.
use Rattle.std.proofs.Common.{◌≡◌, ℕ, zero, suc, pred, ◌+◌, ◌*◌, ◌/◌, ◌^◌, ◌<◌, true, false, ◌&&◌, ltb, sym, refl, ap, ◌∙◌, subst, ap₂, lt_irrefl, zero-add, mul-one, mul_left_comm, arith}
use native.Mathlib.Nat.{pow-succ'}
use Rattle.std.proofs.lemmas.Bool.{and_parts, lt-ltb, ltb-true, cond-false, false_from_ne_true}
use Rattle.grid.specs.declared.side.Side.TheVariants.{West, East, South, North}
use Rattle.grid.specs.Sizes.{level_width, level_height}
use Rattle.grid.specs.Hierarchies.{Hierarchy, live}
use Rattle.model.specs.Fields.{Field}
use Rattle.model.specs.Sums.{gate}
use Rattle.model.specs.Groups.{Amounts}
use Rattle.model.specs.Nesting.{Nested}
use Rattle.model.specs.Interfaces.{Flux, Children}
use Rattle.model.specs.Step.{Line, flux, row, column, fluxes}
use Rattle.model.proofs.Faces.{IsLine}

base : (W : ℕ) → W * 2 ^ 0 ≡ W
base W = mul-one W

doubled : (W l : ℕ) → W * 2 ^ suc l ≡ 2 * (W * 2 ^ l)
doubled W l = ap (λ x. W * x) (pow-succ' 2 l) ∙ mul_left_comm W 2 (2 ^ l)

pub width_suc : (M : Hierarchy) (l : ℕ) → level_width M.size (suc l) ≡ 2 * level_width M.size l
width_suc M l = doubled M.size.width l

pub height_suc : (M : Hierarchy) (l : ℕ) → level_height M.size (suc l) ≡ 2 * level_height M.size l
height_suc M l = doubled M.size.height l

pub base_cell : (M : Hierarchy) (x y : ℕ) → x < M.size.width → y < M.size.height → live M 0 x y ≡ true
base_cell M x y hx hy = ap₂ ◌&&◌ (lt-ltb x M.size.width hx) (lt-ltb y M.size.height hy)

pub base_live : (M : Hierarchy) (x y : ℕ) → x < level_width M.size 0 → y < level_height M.size 0 → live M 0 x y ≡ true
base_live M x y hx hy = base_cell M x y (subst (λ w. x < w) (base M.size.width) hx) (subst (λ w. y < w) (base M.size.height) hy)

half_below : (x w v : ℕ) → v ≡ 2 * w → x / 2 < w → x < v
half_below x w v e h = omega arith

module _ (M : Hierarchy) (L : ℕ) (N : Nested M L) where
  pub inside : (l x y : ℕ) → live M l x y ≡ true → (x < level_width M.size l) × (y < level_height M.size l)
  inside zero x y e =
      let p = and_parts (ltb x M.size.width) (ltb y M.size.height) e in (
        subst (λ w. x < w) (sym (base M.size.width)) (ltb-true x M.size.width p.0),
        subst (λ w. y < w) (sym (base M.size.height)) (ltb-true y M.size.height p.1),
      )
  inside (suc l) x y e =
      let p = inside l (x / 2) (y / 2) (N.itself l (x / 2) (y / 2) e) in
      (half_below x _ _ (doubled M.size.width l) p.0, half_below y _ _ (doubled M.size.height l) p.1)

  out_x : (l y : ℕ) → live M l (level_width M.size l) y ≡ false
  out_x l y = false_from_ne_true _ (λ t. lt_irrefl (level_width M.size l) (inside l (level_width M.size l) y t).0)

  out_y : (l x : ℕ) → live M l x (level_height M.size l) ≡ false
  out_y l x = false_from_ne_true _ (λ t. lt_irrefl (level_height M.size l) (inside l x (level_height M.size l) t).1)

  -- no level lies past the deepest
  pub bottom : (k : ℕ) → L ≡ suc k → (x y : ℕ) → live M (0 + L) x y ≡ false
  bottom k e x y =
      ap (λ j. live M j x y) (zero-add L ∙ e)
      ∙ false_from_ne_true (M.covered k (x / 2) (y / 2)) (λ t. lt_irrefl (suc k) (subst (λ n. suc k < n) e (N.deep k _ _ t)))

  module _ {A : Type 0} (G : Amounts A) (F : Flux A) (split : A → Children A) (steps : ℕ) where
    open G use {addition, negation as neg}

    flux_high : (n : Line A) (k : ℕ) → n.size ≡ suc k
        → flux G n (suc k) ≡ neg (gate addition (n.alive k) (n.high (n.content (pred n.size))))
    unfolding flux
    flux_high n k e =
        cond-false _ _ _ (false_from_ne_true (ltb (suc k) n.size) (λ t. lt_irrefl (suc k) (subst (λ s. suc k < s) e (ltb-true _ _ t))))
        ∙ ap (λ i. neg (gate addition (n.alive k) (n.high (n.content i)))) (sym (ap pred e))

    pub row_line : (l : ℕ) (cb b : Field A) (y : ℕ)
        → IsLine G (level_width M.size l) (λ x. live M l x y) (λ x. M.covered l x y) (λ x. (fluxes G M F split steps l cb b).over_x x y)
        (F.boundary l West y steps (b 0 y)) (F.boundary l East y steps (b (pred (level_width M.size l)) y))
    unfolding fluxes row flux
    row_line l cb b y = record {
      itself = λ i. N.itself l i y;
      up = λ i. N.to_east l i y;
      down = λ i. N.to_west l i y;
      ends = out_x l y;
      low_end = refl;
      high_end = λ k e. flux_high (row G M F split steps l cb b y) k e;
    }

    pub column_line : (l : ℕ) (cb b : Field A) (x : ℕ)
        → IsLine G (level_height M.size l) (λ y. live M l x y) (λ y. M.covered l x y) (λ y. (fluxes G M F split steps l cb b).over_y x y)
        (F.boundary l South x steps (b x 0)) (F.boundary l North x steps (b x (pred (level_height M.size l))))
    unfolding fluxes column flux
    column_line l cb b x = record {
      itself = λ i. N.itself l x i;
      up = λ i. N.to_north l x i;
      down = λ i. N.to_south l x i;
      ends = out_y l x;
      low_end = refl;
      high_end = λ k e. flux_high (column G M F split steps l cb b x) k e;
    }
