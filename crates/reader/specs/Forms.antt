-- Amount kinds as a scenario writes them. Assumes nothing.
use Rattle.std.specs.Prelude.{ℕ, Bool, List, ◌++◌, length, ℤ, pos, negsuc, Some, None, Ok, codes, Option, Result, ◌==◌}
use Rattle.std.specs.Option.{option_map}
use Rattle.amount.specs.declared.volume.Volume.{Volume}
use Rattle.amount.specs.declared.water.Water.{Water}
use Rattle.amount.specs.Volumes.{volume_of}
use Rattle.amount.specs.Waters.{water_of}
use Rattle.text.specs.Text.{fields}
use Rattle.text.specs.Numbers.{field_within}
use Rattle.text.specs.Printed.{number_field}
use Rattle.syntax.specs.declared.fault.Fault.{Fault}
use Rattle.syntax.specs.declared.fault.Fault.TheVariants as fault
use Rattle.syntax.specs.Faults.{taken, needed}
use Rattle.syntax.specs.Names.{named}

-- how many fields a pour line has, the amount in its fields from field 3 on, what a rule line must be,
-- and how an amount is written
pub record Form (A : Type 0) : Type 0 where
  pub count : ℕ
  pub read : List ℕ → Option A
  pub rule : List ℕ → Result (Unit {0}) Fault
  pub show : A → List ℕ

-- the field k of a line as an amount: a number within 1,000,000,000 of zero
abbrev pub amount_field : List ℕ → ℕ → Option ℤ
amount_field line k = field_within line k (negsuc 999999999) (pos 1000000000)

-- the line has n fields
abbrev pub has_fields : List ℕ → ℕ → Bool
has_fields line n = length (fields line) == n

-- a line that has another number of fields is refused
abbrev pub counted : List ℕ → ℕ → Result (Unit {0}) Fault
counted line n = needed (has_fields line n) fault.Fields (Ok tt)

-- Volumes: one number. The rule is advect,CX,CY with both numbers from -128 to 128.
abbrev pub advect_line : List ℕ → Result (Unit {0}) Fault
advect_line line =
    needed (has_fields line 4) fault.Fields (needed (named line 1 (codes "advect")) fault.Fields (
    taken (field_within line 2 (negsuc 127) (pos 128)) fault.Number (λ cx.
    taken (field_within line 3 (negsuc 127) (pos 128)) fault.Number (λ cy. Ok tt))))

abbrev pub volume_form : Form Volume
volume_form = record {
  count = 4;
  read = λ line. option_map volume_of (amount_field line 3);
  rule = advect_line;
  show = λ v. number_field v.units;
}

-- Waters: the three parts, each a number. The rule is water,S with S from 8 to 24.
abbrev pub water_line : List ℕ → Result (Unit {0}) Fault
water_line line =
    needed (has_fields line 3) fault.Fields (needed (named line 1 (codes "water")) fault.Fields (
    taken (field_within line 2 (pos 8) (pos 24)) fault.Number (λ s. Ok tt)))

-- the water of three parts that are all there
abbrev pub water_from : Option ℤ → Option ℤ → Option ℤ → Option Water
water_from None p q = None
water_from (Some v) None q = None
water_from (Some v) (Some p) None = None
water_from (Some v) (Some p) (Some q) = Some (water_of v p q)

abbrev pub water_form : Form Water
water_form = record {
  count = 6;
  read = λ line. water_from (amount_field line 3) (amount_field line 4) (amount_field line 5);
  rule = water_line;
  show = λ w. number_field w.v ++ (number_field w.p ++ number_field w.q);
}
