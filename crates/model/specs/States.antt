-- The state of a mesh, and what the calls make of it. Assumes nothing.
use Rattle.std.specs.Prelude.{ℕ, []}
use Rattle.amount.specs.Additions.{Addition}
use Rattle.grid.specs.declared.size.Size.{Size}
use Rattle.grid.specs.Hierarchies.{Patches, Hierarchy, laid}
use Rattle.model.specs.Fields.{Fields}
use Rattle.model.specs.Pour.{pour}
use Rattle.model.specs.Total.{composite_total}

-- what a mesh keeps, with its contents: its size, the patches of each level, the accepted steps and the two sums
pub record State (A : Type 0) : Type 0 where
  pub size : Size
  pub patches : Patches
  pub contents : Fields A
  pub steps : ℕ
  pub poured : A
  pub inward : A

abbrev pub hierarchy : {A : Type 0} → State A → Hierarchy
hierarchy s = laid s.size s.patches

-- what an audit reports: the accepted steps, the composite total, the sums poured and inward
pub record Report (A : Type 0) : Type 0 where
  pub steps : ℕ
  pub total : A
  pub poured : A
  pub inward : A

module _ {A : Type 0} (G : Addition A) where
  -- a newly opened mesh: nothing in it, no patches, no steps
  abbrev pub opened : Size → State A
  opened size = record {
    size = size;
    patches = λ k. [];
    contents = λ l x y. G.zero;
    steps = 0;
    poured = G.zero;
    inward = G.zero;
  }

  -- A pour adds its amount to the sum poured, to the base cell (x, y) and on down.
  abbrev pub poured_into : State A → (x y : ℕ) → A → State A
  poured_into s x y a = record {
    size = s.size;
    patches = s.patches;
    contents = pour G (hierarchy s) s.size.levels 0 x y a s.contents;
    steps = s.steps;
    poured = G.◌⊕◌ s.poured a;
    inward = s.inward;
  }

  abbrev pub total : State A → A
  total s = composite_total G (hierarchy s) s.size.levels 0 s.contents

  abbrev pub report : State A → Report A
  report s = record { steps = s.steps; total = total s; poured = s.poured; inward = s.inward }
