use Rattle.std.proofs.Common.{rules, ◌≡◌, length, Decides, sym, ap, ◌∙◌, ℕ, subst, arith}
use Rattle.std.proofs.lemmas.Bool.Decides.{Decides-like}
use Rattle.grid.specs.Sizes.{sheet_length}
use Rattle.grid.specs.declared.layout.Layout.{Layout}
use Rattle.grid.specs.Layouts.{RowMarked, LevelMarked}
use Rattle.grid.proofs.Finds.{all_Decides}
use Rattle.grid.proofs.layout.Layout.level_agrees.Goals as goal

pub returns : goal.returns
returns c small whole =
    let marks = c.args.marks.now in
    let o = c.in-Some.level.layout.now in
    let n = c.in-Some.level.number in
    let at = c.in-Some.ensures in
    let whole' : length marks ≡ sheet_length o.size = whole ∙ ap (λ (p : Layout). sheet_length p.size) (sym at.0) in
    let Marked : Layout → ℕ → Type 0 = λ p l. Decides c.all.result (LevelMarked p marks l) in
    let here : Marked o n =
    Decides-like c.all.result (λ h y ly. h y (omega arith)) (λ h y ly. h y (omega arith))
    (all_Decides c.height.result _ (RowMarked o marks n) (λ a r q k. search rules) (λ y r ly k. search rules) c.all.result c.all.ensures.runs) in
    subst (Marked c.args.self.now) at.1 (subst (λ (p : Layout). Marked p n) at.0 here)
