-- The five sheets of a call as lists. Assumes nothing.
use Rattle.std.specs.Prelude.{List, ℕ}
use Rattle.std.specs.Borrow.{MutBor}
use Rattle.model.specs.Refusals.{Sheets}
use Rattle.sheets.specs.declared.lent.Sheets.{Sheets as Slices}

-- the five sheets, by what they hold
abbrev pub lists : {A : Type 0} → (contents before corrections : List A) (marks wanted : List ℕ) → Sheets A
lists contents before corrections marks wanted = record {
  contents = contents;
  before = before;
  corrections = corrections;
  marks = marks;
  wanted = wanted;
}

-- the five sheets that a call was lent, as it found them; and as it left them, one after another
abbrev pub lent : {A : Type 0} → Slices A → Sheets A
lent s = lists s.contents.now s.before.now s.corrections.now s.marks.now s.wanted.now

abbrev pub left : {A : Type 0} → MutBor (List A) × (MutBor (List A) × (MutBor (List A) × (MutBor (List ℕ) × (MutBor (List ℕ) × Unit {0})))) → Sheets A
left s = lists s.0.now s.1.0.now s.1.1.0.now s.1.1.1.0.now s.1.1.1.1.0.now
