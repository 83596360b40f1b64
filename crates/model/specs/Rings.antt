-- Tests of the ring and of the children of a cell.
use Rattle.std.specs.Prelude.{ℕ, suc, pred, ◌*◌, Bool, not, ◌&&◌, ◌||◌, nat_lt}
use Rattle.grid.specs.Cells.{touching}

-- x - 1, x or x + 1 passes
unfoldable pub some_near : ℕ → (ℕ → Bool) → Bool
some_near x p = p (pred x) || p x || p (suc x)

-- in a grid w wide and h high, some cell of the ring of (x, y) passes
unfoldable pub ring_some : (w h : ℕ) → (ℕ → ℕ → Bool) → ℕ → ℕ → Bool
ring_some w h p x y = some_near x (λ u. some_near y (λ v. nat_lt u w && nat_lt v h && touching x y u v && p u v))

-- every cell of the ring passes
unfoldable pub ring_every : (w h : ℕ) → (ℕ → ℕ → Bool) → ℕ → ℕ → Bool
ring_every w h p x y = not (ring_some w h (λ u v. not (p u v)) x y)

-- some child of (x, y) passes
unfoldable pub child_some : (ℕ → ℕ → Bool) → ℕ → ℕ → Bool
child_some p x y = p (2 * x) (2 * y) || p (suc (2 * x)) (2 * y) || p (2 * x) (suc (2 * y)) || p (suc (2 * x)) (suc (2 * y))
