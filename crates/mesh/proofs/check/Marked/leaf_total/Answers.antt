use Rattle.std.proofs.Common.{true, false, length, sym, ap, ◌∙◌, arith, take_all}
use Rattle.std.proofs.lemmas.Bool.Decides.{nat_tests}
use Rattle.std.proofs.lemmas.List.{length_push}
use Rattle.std.proofs.lemmas.Slice.Zip.{zip_turn, zip_end}
use Rattle.amount.specs.Additions.{sum}
use Rattle.grid.specs.Sizes.{sheet}
use Rattle.grid.specs.Layouts.{hierarchy_of}
use Rattle.grid.proofs.Sheets.{length-sheet}
use Rattle.grid.proofs.Rows.{length_of}
use Rattle.model.specs.Fields.{fields_of}
use Rattle.model.proofs.Totals.{sheet_total}
use Rattle.mesh.proofs.Totals.{counted, counts_more}
use Rattle.mesh.proofs.check.Marked.leaf_total.Goals as goal

-- A cell counts for its content, which is added, or for nothing, which changes nothing.
pub loop-content-preserved-then-is : goal.loop-content-preserved-then-is
loop-content-preserved-then-is g c =
    let turn = zip_turn c.args.contents.now c.args.self.marks.now c.loop-content.yielded c.into_iter-content-iterator.result c.loop-content.content-iterator c.next.new.self _ (cc) (cc) c.loop-content.yielded_by _ c.in-Some.is c.next.ensures.steps in
    simp (c.add-total.ensures, c.loop-content.invariant, turn.2 g.V.Amount.addition.zero, length_push)
    (counts_more g.V.Amount.addition g.met.V.Amount.sums c.args.self.layout.now c.args.self.agrees c.args.contents.now c.requires.whole _ turn.0 true (let mark = turn.3 0 in grind (arith, nat_tests)))

pub loop-content-preserved : goal.loop-content-preserved
loop-content-preserved g c =
    let turn = zip_turn c.args.contents.now c.args.self.marks.now c.loop-content.yielded c.into_iter-content-iterator.result c.loop-content.content-iterator c.next.new.self _ (cc) (cc) c.loop-content.yielded_by _ c.in-Some.is c.next.ensures.steps in
    simp (c.loop-content.invariant, length_push)
    (sym (g.met.V.Amount.sums.neutral _)
    ∙ counts_more g.V.Amount.addition g.met.V.Amount.sums c.args.self.layout.now c.args.self.agrees c.args.contents.now c.requires.whole _ turn.0 false (let mark = turn.3 0 in grind (arith, nat_tests)))

pub returns : goal.returns
returns g c =
    let G = g.V.Amount.addition in
    let o = c.args.self.layout.now in
    let all = sheet o.size (counted G o c.args.contents.now) in
    let n = zip_end c.args.contents.now c.args.self.marks.now c.loop-content.yielded c.into_iter-content-iterator.result c.loop-content.content-iterator c.next.new.self _ (cc) (cc) c.loop-content.yielded_by c.in-None.is c.next.ensures.steps in
    c.loop-content.invariant
    ∙ (ap (sum G) (take_all (length c.loop-content.yielded) all (omega (arith, c.requires.whole, length_of o c.args.self.marks.now c.args.self.agrees, length-sheet o.size (counted G o c.args.contents.now))))
    ∙ sheet_total G g.met.V.Amount.sums (hierarchy_of o) (fields_of o.size G.zero c.args.contents.now))
