use Rattle.std.proofs.Common.{◌≡◌, Some, ap, ◌∙◌, arith, rules, tests}
use Rattle.std.specs.Option.{option_map}
use Rattle.std.proofs.lemmas.Iterator.{YieldsList-from_slice}
use Rattle.std.proofs.lemmas.Iterator.Search.{position_from_yields_List}
use Rattle.text.specs.Text.{cut_at}
use Rattle.text.proofs.Cuts.{around, cut_by_position, found_inside, parted}
use Rattle.text.proofs.fields.cut.Goals as goal

pub returns-in_err-i : goal.returns-in_err-i
returns-in_err-i c =
    let text = c.args.text.now in
    let cuts : option_map (around text) c.position.result ≡ cut_at c.args.separator text =
    ap (option_map (around text)) (position_from_yields_List _ _ _ _ c.position.ensures.ran (YieldsList-from_slice text (cc)) (λ x b q k. search (rules, tests)))
    ∙ cut_by_position c.args.separator text in
    search rules

pub returns : goal.returns
returns c =
    let text = c.args.text.now in
    let at = position_from_yields_List _ _ _ _ c.position.ensures.ran (YieldsList-from_slice text (cc)) (λ x b q k. search (rules, tests)) in
    let cuts : option_map (around text) c.position.result ≡ cut_at c.args.separator text = ap (option_map (around text)) at ∙ cut_by_position c.args.separator text in
    let first : Some (around text c.in_ok-i.i) ≡ cut_at c.args.separator text = search rules in
    let found : Some c.in_ok-i.i ≡ c.position.result = search rules in
    let inside = found_inside text _ c.in_ok-i.i (found ∙ at) in
    parted c.args.separator text c.in_ok-i.i _ (omega arith) first
