-- What a step and a regrid keep, and what a level step on a level without live cells does.
use Rattle.std.specs.Prelude.{◌≡◌, ℕ, suc, ◌<◌, Bool, false}
use Rattle.amount.specs.Additions.{Addition, Sums}
use Rattle.grid.specs.Hierarchies.{Hierarchy, live}
use Rattle.model.specs.Fields.{Field, Fields}
use Rattle.model.specs.Total.{composite_total}
use Rattle.model.specs.Groups.{Amounts, Group}
use Rattle.model.specs.Nesting.{Nested}
use Rattle.model.specs.Interfaces.{Flux, Children, Splits}
use Rattle.model.specs.Step.{level_step, step, inward, Restricted}
use Rattle.model.specs.Regrid.{relaid, regrid}

-- A step changes the composite total by exactly its inward amount, whatever the flux, the split and the contents.
abbrev pub StepConserves : Type 0 → Type 0
StepConserves A =
    (G : Amounts A) → Group G → (M : Hierarchy) (L : ℕ) → Nested M L → (F : Flux A) (split : A → Children A) (steps : ℕ) (u : Fields A)
    → composite_total G.addition M L 0 (step G M F split steps L u)
    ≡ G.addition.◌⊕◌ (composite_total G.addition M L 0 u) (inward G M F split steps L 0 u)

-- After a step each covered cell holds the sum of its children.
abbrev pub StepRestricts : Type 0 → Type 0
StepRestricts A =
    (G : Amounts A) → Group G → (M : Hierarchy) (L : ℕ) → Nested M L → (F : Flux A) (split : A → Children A) (steps : ℕ) (u : Fields A)
    → Restricted G.addition M (step G M F split steps L u)

-- Where no cell of level l is live, so that none of the level before it is covered, a level step on it changes nothing and has no inward
-- amount: it is the same to make it or not.
abbrev pub IdleLevel : Type 0 → Type 0
IdleLevel A =
    (G : Amounts A) → Group G → (M : Hierarchy) (L : ℕ) → Nested M L → (F : Flux A) (split : A → Children A) (steps : ℕ)
    → (d l : ℕ) → ((x y : ℕ) → live M l x y ≡ false) → (coarser : Field A) (u : Fields A)
    → (level_step G M F split steps d l coarser u ≡ u) × (inward G M F split steps d l u ≡ G.addition.zero)

-- A regrid of a level that has a next one, from nested to nested, keeps the composite total, and that each covered cell holds the sum
-- of its children, whichever cells it leaves covered.
abbrev pub RegridConserves : Type 0 → Type 0
RegridConserves A =
    (G : Addition A) → Sums G → (M : Hierarchy) (L l : ℕ) (chosen : ℕ → ℕ → Bool) → suc l < L → Nested M L → Nested (relaid M l chosen) L
    → (split : A → Children A) → Splits G split → (u : Fields A) → Restricted G M u
    → (composite_total G (relaid M l chosen) L 0 (regrid G M l chosen split u) ≡ composite_total G M L 0 u)
    × Restricted G (relaid M l chosen) (regrid G M l chosen split u)
