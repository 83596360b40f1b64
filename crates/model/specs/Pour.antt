-- A pour: an amount added to a cell, and down through covered cells. Assumes nothing.
use Rattle.std.specs.Prelude.{ℕ, zero, suc, ◌*◌, cond, ◌&&◌, ◌==◌}
use Rattle.amount.specs.Additions.{Addition}
use Rattle.grid.specs.Hierarchies.{Hierarchy}
use Rattle.model.specs.Fields.{Field, Fields, write}

module _ {A : Type 0} (G : Addition A) where
  -- the field with an amount added at one place
  unfoldable pub added : (x y : ℕ) → A → Field A → Field A
  added x y a v i j = cond (i == x && j == y) (G.◌⊕◌ (v i j) a) (v i j)

  -- An amount is added to the cell (x, y) of level l, the lowest of d levels, and, while the cell is covered,
  -- to its south-west child and so on down.
  unfoldable pub pour : Hierarchy → (d l x y : ℕ) → A → Fields A → Fields A
  pour M zero l x y a u = u
  pour M (suc d) l x y a u =
      let here : Fields A = write l (added x y a (u l)) u in
      cond (M.covered l x y) (pour M d (suc l) (2 * x) (2 * y) a here) here
