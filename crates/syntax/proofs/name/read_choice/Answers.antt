use Rattle.std.proofs.Common.{◌≡◌, List, [], ◌∷◌, map, Some, None, cond, true, false, Bool, Option, ap, ◌∙◌, refl, rules, tests}
use Rattle.std.specs.Option.{option_map}
use Rattle.std.specs.List.{find}
use Rattle.std.proofs.lemmas.Iterator.{YieldsList-from_slice}
use Rattle.std.proofs.lemmas.Iterator.Search.{find_from_yields_List}
use Rattle.syntax.specs.Names.{named}
use Rattle.syntax.proofs.name.read_choice.Goals as goal

-- what is found among the images of a list
module _ {X Y : Type 0} (f : X → Y) (p : Y → Bool) where
  step : (here : Bool) (x : X) (o : Option X) (q : Option Y) → option_map f o ≡ q → option_map f (cond here (Some x) o) ≡ cond here (Some (f x)) q
  step true x o q e = refl
  step false x o q e = e

  find_map : (xs : List X) → option_map f (find (λ x. p (f x)) xs) ≡ find p (map f xs)
  find_map [] = refl
  find_map (x ∷ xs) = step (p (f x)) x _ _ (find_map xs)

joined : {X Y Z T : Type 0} (f : X → Y) (g : Y → Z) (h : Z → T) (o : Option X) → option_map (λ x. h (g (f x))) o ≡ option_map h (option_map g (option_map f o))
joined f g h None = refl
joined f g h (Some x) = refl

pub returns : goal.returns
returns g c =
    let names = c.args.names.now in
    let held = named c.args.line.now c.args.number in
    let found : option_map (λ x. x.now) c.find.result ≡ find (λ name. held name.0.now) names =
    find_from_yields_List _ _ _ c.find.result c.find.ensures.ran (YieldsList-from_slice names (cc)) (λ x b q k. search (rules, tests)) in
    let meaning : c.map.result ≡ option_map (λ x. x.now.1) c.find.result = search rules in
    meaning ∙ (joined (λ x. x.now) (λ name. (name.0.now, name.1)) (λ name. name.1) c.find.result
    ∙ ap (option_map (λ name. name.1)) (ap (option_map (λ name. (name.0.now, name.1))) found ∙ find_map (λ name. (name.0.now, name.1)) (λ name. held name.0) names))
