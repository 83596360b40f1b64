-- Numbers in a text: an optional minus and one to ten digits. Assumes nothing.
use Rattle.std.specs.Prelude.{ℕ, ◌+◌, ◌-◌, ◌*◌, cond, ◌&&◌, List, [], ◌∷◌, length, ℤ, pos, neg_ℤ, Some, None, Option, ◌==◌, int_le, nat_le}
use Rattle.std.specs.Option.{option_map}
use Rattle.std.specs.List.{slice_get}
use Rattle.std.specs.Str.{all_ascii_digits}
use Rattle.text.specs.Text.{fields}

-- the value of digits that follow the digits of n; 48 is the digit 0
abbrev pub read_on : ℕ → List ℕ → ℕ
read_on n [] = n
read_on n (b ∷ bs) = read_on (n * 10 + (b - 48)) bs

-- the value of one to ten digits
abbrev pub magnitude_of : List ℕ → Option ℕ
magnitude_of bs = cond (nat_le 1 (length bs) && nat_le (length bs) 10 && all_ascii_digits bs) (Some (read_on 0 bs)) None

-- the value of a number; 45 is the minus
abbrev pub number_of : List ℕ → Option ℤ
number_of [] = None
number_of (b ∷ bs) = cond (b == 45) (option_map (λ n. neg_ℤ (pos n)) (magnitude_of bs)) (option_map pos (magnitude_of (b ∷ bs)))

-- a number, if it lies from lo to hi
abbrev pub within : ℤ → ℤ → Option ℤ → Option ℤ
within lo hi None = None
within lo hi (Some n) = cond (int_le lo n && int_le n hi) (Some n) None

-- the number that a text spells, where there is a text
abbrev pub number_if : Option (List ℕ) → Option ℤ
number_if None = None
number_if (Some bs) = number_of bs

-- the field k of a line as a number from lo to hi
abbrev pub field_within : List ℕ → ℕ → ℤ → ℤ → Option ℤ
field_within bs k lo hi = within lo hi (number_if (slice_get (fields bs) k))
