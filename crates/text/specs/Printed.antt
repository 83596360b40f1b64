-- Numbers as they are written. Assumes nothing.
use Rattle.std.specs.Prelude.{ℕ, List, ◌++◌, ℤ, codes}
use Rattle.std.specs.Fmt.{signed_decimal}

-- a comma, and then a number
abbrev pub number_field : ℤ → List ℕ
number_field n = codes "," ++ signed_decimal n
