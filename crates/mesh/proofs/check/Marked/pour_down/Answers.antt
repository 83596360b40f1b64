use Rattle.std.proofs.Common.{◌+◌, ◌-◌, true, false, ◌∙◌, ap, arith}
use Rattle.grid.specs.declared.place.Place.{Place}
use Rattle.grid.specs.Layouts.{hierarchy_of}
use Rattle.grid.proofs.Rows.{length_of}
use Rattle.model.specs.Fields.{fields_of}
use Rattle.model.specs.Pour.{pour}
use Rattle.mesh.proofs.Pours.{found, level_is, pour_all, child_is, childless}
use Rattle.mesh.proofs.check.Marked.pour_down.Goals as goal

pub add_at-requires : goal.add_at-requires
add_at-requires g c =
    omega (arith, c.loop-level.invariant.0, (found c.args.self.layout.now.size c.loop-level.level c.loop-level.place c.in-Some.index c.in-Some.ensures).2)

pub bounds-self-index : goal.bounds-self-index
bounds-self-index g c =
    omega (arith, length_of c.args.self.layout.now c.args.self.marks.now c.args.self.agrees, (found c.args.self.layout.now.size c.loop-level.level c.loop-level.place c.in-Some.index c.in-Some.ensures).2)

pub returns-then-not-is : goal.returns-then-not-is
returns-then-not-is g c =
    level_is g.V.Amount.addition c.args.self.layout.now c.args.self.agrees c.loop-level.contents c.loop-level.invariant.0 c.loop-level.level c.loop-level.place
    c.in-Some.index c.in-Some.ensures c.args.amount c.add_at.ensures false c.if-not-is.ensures c.loop-level-test.true
    ∙ c.loop-level.invariant.2

pub returns-in_default-children : goal.returns-in_default-children
returns-in_default-children g c =
    let s = c.args.self.layout.now.size in
    let here = (found s c.loop-level.level c.loop-level.place c.in-Some.index c.in-Some.ensures).0 in
    pour_all _ _ _ _ _ _ _ _ (childless s c.loop-level.level c.loop-level.place here c.in_default-children.ensures)
    ∙ (level_is g.V.Amount.addition c.args.self.layout.now c.args.self.agrees c.loop-level.contents c.loop-level.invariant.0 c.loop-level.level c.loop-level.place
    c.in-Some.index c.in-Some.ensures c.args.amount c.add_at.ensures true c.if-not-is.ensures c.loop-level-test.true
    ∙ c.loop-level.invariant.2)

pub loop-level-preserved : goal.loop-level-preserved
loop-level-preserved g c =
    let G = g.V.Amount.addition in
    let o = c.args.self.layout.now in
    let child = child_is o.size c.loop-level.level c.loop-level.place (c.in-Some-children.south_west, c.in-Some-children.field-0-1, c.in-Some-children.field-0-2, c.in-Some-children.field-0-3) c.in-Some-children.ensures in (
      omega (arith, c.add_at.auto.contents, c.loop-level.invariant.0),
      (λ _. child.1),
      ap (λ (p : Place). pour G (hierarchy_of o) (o.size.levels - (c.loop-level.level + 1)) (c.loop-level.level + 1) p.x p.y c.args.amount (fields_of o.size G.zero c.add_at.new.contents)) child.0
          ∙ (level_is G o c.args.self.agrees c.loop-level.contents c.loop-level.invariant.0 c.loop-level.level c.loop-level.place
          c.in-Some.index c.in-Some.ensures c.args.amount c.add_at.ensures true c.if-not-is.ensures c.loop-level-test.true
          ∙ c.loop-level.invariant.2),
    )

pub returns : goal.returns
returns g c =
    pour_all _ _ _ _ _ _ _ _ (omega arith) ∙ c.loop-level.invariant.2
