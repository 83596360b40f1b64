-- Fields that hold one of a few names. Assumes nothing.
use Rattle.std.specs.Prelude.{ℕ, Bool, false, List, pos, Some, None, Option}
use Rattle.std.specs.Int.Signed.{mag}
use Rattle.std.specs.Option.{option_map}
use Rattle.std.specs.List.{find, slice_get}
use Rattle.std.specs.Str.{bytes_eq}
use Rattle.text.specs.Text.{fields}
use Rattle.text.specs.Numbers.{field_within}

abbrev pub is_text : Option (List ℕ) → List ℕ → Bool
is_text None name = false
is_text (Some bs) name = bytes_eq bs name

-- the field k of a line is this name
abbrev pub named : List ℕ → ℕ → List ℕ → Bool
named line k name = is_text (slice_get (fields line) k) name

-- what the first of these names that the field k holds stands for, if it holds one
abbrev pub choice_of : {T : Type 0} → List ℕ → ℕ → List (List ℕ × T) → Option T
choice_of line k names = option_map (λ name. name.1) (find (λ name. named line k name.0) names)

-- the field k as a number from 0 to most
abbrev pub up_to : List ℕ → ℕ → ℕ → Option ℕ
up_to line k most = option_map mag (field_within line k (pos 0) (pos most))
