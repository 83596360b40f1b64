use Rattle.std.proofs.Common.{ℕ, ◌≡◌, ◌==◌, List, Option, ap, ◌∙◌, rules, tests}
use Rattle.std.specs.List.{slice_get, slice_split}
use Rattle.std.proofs.lemmas.Iterator.Consumers.{nth_from_yields_List}
use Rattle.std.proofs.lemmas.Iterator.Splits.{YieldsList-from_slice_split}
use Rattle.text.specs.Text.{fields}
use Rattle.text.proofs.Cuts.{split_pieces}
use Rattle.text.proofs.fields.field.Goals as goal

-- what is found of the pieces at a number is the field of that number
held : (line : List ℕ) (n number : ℕ) (found : Option (List ℕ)) → found ≡ slice_get (slice_split (λ b. b == 44) line) n → n ≡ number
    → found ≡ slice_get (fields line) number
held line n number found e k = e ∙ (ap (λ ps. slice_get ps n) (split_pieces 44 line) ∙ ap (slice_get (fields line)) k)

pub returns : goal.returns
returns c =
    let line = c.args.line.now in
    held line _ _ _ (nth_from_yields_List _ _ _ c.nth.ensures.ran (YieldsList-from_slice_split _ _ line c.split.ensures.rest c.split.ensures.done c.split.ensures.closure (λ x r q k. search (rules, tests)))) (search rules)
