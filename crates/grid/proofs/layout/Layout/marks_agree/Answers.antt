use Rattle.std.proofs.Common.{rules, ◌∙◌, sym}
use Rattle.std.proofs.lemmas.Bool.Decides.{Decides-like}
use Rattle.std.proofs.lemmas.Bool.{eqb-true}
use Rattle.grid.specs.Layouts.{LevelMarked}
use Rattle.grid.proofs.Finds.{all_Decides}
use Rattle.grid.proofs.Rows.{levels_of, from_levels, length_of}
use Rattle.grid.proofs.layout.Layout.marks_agree.Goals as goal

pub returns-then-marks-sheet_length : goal.returns-then-marks-sheet_length
returns-then-marks-sheet_length c =
    let o = c.args.self.now in
    let marks = c.args.marks.now in
    Decides-like c.all.result (from_levels o marks (c.if-marks-sheet_length.true ∙ c.sheet_length.ensures.0)) (levels_of o marks)
    (all_Decides o.size.levels _ (LevelMarked o marks) (λ a r q k. search rules) (λ l r ll k. search rules) c.all.result c.all.ensures.runs)

pub returns-else-marks-sheet_length : goal.returns-else-marks-sheet_length
returns-else-marks-sheet_length c =
    (λ e. absurd (c.if-marks-sheet_length.false (eqb-true _ _ e)), λ e. absurd (c.if-marks-sheet_length.false (length_of c.args.self.now c.args.marks.now e ∙ sym c.sheet_length.ensures.0)))
