-- Texts as lists of bytes, cut at separators into pieces and fields. Assumes nothing.
use Rattle.std.specs.Prelude.{ℕ, cond, List, [], ◌∷◌, Some, None, Option, ◌==◌}
use Rattle.std.specs.Option.{option_map}

-- what stands before the first separator, and what stands after it
abbrev pub cut_at : ℕ → List ℕ → Option (List ℕ × List ℕ)
cut_at sep [] = None
cut_at sep (b ∷ bs) = cond (b == sep) (Some ([], bs)) (option_map (λ parts. (b ∷ parts.0, parts.1)) (cut_at sep bs))

-- a byte put in front of the first piece
abbrev pub onto : ℕ → List (List ℕ) → List (List ℕ)
onto b [] = (b ∷ []) ∷ []
onto b (p ∷ ps) = (b ∷ p) ∷ ps

-- a text cut at every separator; a text without one is a single piece
abbrev pub pieces : ℕ → List ℕ → List (List ℕ)
pieces sep [] = [] ∷ []
pieces sep (b ∷ bs) = cond (b == sep) ([] ∷ pieces sep bs) (onto b (pieces sep bs))

-- the fields of a line, which commas separate
abbrev pub fields : List ℕ → List (List ℕ)
fields bs = pieces 44 bs
