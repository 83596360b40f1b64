use Rattle.std.proofs.Common.{◌≡◌, length, sym, ap, ◌∙◌, rules, arith}
use Rattle.std.proofs.lemmas.Bool.Decides.{nat_tests}
use Rattle.grid.specs.declared.layout.Layout.{Layout}
use Rattle.grid.specs.Sizes.{sheet_length, sheet}
use Rattle.grid.specs.Layouts.{hierarchy_of}
use Rattle.model.specs.Fields.{fields_of}
use Rattle.model.specs.Pour.{pour}
use Rattle.model.proofs.Sheets.{sheet_of_fields}
use Rattle.mesh.proofs.mesh.Mesh.pour.Goals as goal

-- The state is what the rule says by the contract of the descent, and the sheet of contents is the sheet of that state.
pub returns : goal.returns
unfolding fields_of pour
returns g c =
    let G = g.V.Amount.addition in
    let o = c.args.self.now.layout in
    let same : c.in_ok-check_marks.field-0.layout.now ≡ o = grind arith in
    let down = ap (λ (l : Layout). fields_of l.size G.zero c.pour_down.new.contents) (sym same)
    ∙ (c.pour_down.ensures ∙ ap (λ (l : Layout). pour G (hierarchy_of l) l.size.levels 0 c.args.x c.args.y c.args.amount (fields_of l.size G.zero c.args.sheets.contents.now)) same) in
    let kept : length c.pour_down.new.contents ≡ sheet_length o.size = grind (arith, nat_tests) in
    let listed = sheet_of_fields o.size G.zero c.pour_down.new.contents kept ∙ ap (sheet o.size) down in
    search rules
