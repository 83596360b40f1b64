-- A feed over any flux rule. Assumes nothing.
use Rattle.std.specs.Prelude.{ℕ, cond, List, nat_lt, slice_index_or}
use Rattle.amount.specs.Additions.{Addition}
use Rattle.grid.specs.declared.side.Side.{Side}
use Rattle.grid.specs.declared.side.Side.TheVariants.{West, East, South, North}
use Rattle.model.specs.Interfaces.{Flux}

-- At the west side the amount of the level, one of three, comes to what the rule below lets in.
abbrev pub fed : {A : Type 0} → Addition A → List A → ℕ → Side → A → A
fed G amounts level West below = cond (nat_lt level 3) (G.◌⊕◌ below (slice_index_or amounts level G.zero)) below
fed G amounts level East below = below
fed G amounts level South below = below
fed G amounts level North below = below

-- Between cells a feed changes nothing.
abbrev pub feed : {A : Type 0} → Addition A → List A → Flux A → Flux A
feed G amounts below = record {
  interior = below.interior;
  boundary = λ level side place steps content. fed G amounts level side (below.boundary level side place steps content);
}
