-- The number of each refusal. None carries a value. Assumes nothing.
use Rattle.std.specs.Prelude.{ℕ}
use Rattle.sheets.specs.declared.refusal.Refusal.{Refusal}
use Rattle.sheets.specs.declared.refusal.Refusal.TheVariants.{Size, SheetLength, Outside, Marks}

abbrev pub number_of : Refusal → ℕ
number_of Size = 1
number_of SheetLength = 2
number_of Outside = 4
number_of Marks = 5
