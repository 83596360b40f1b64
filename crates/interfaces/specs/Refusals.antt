-- The refusals in making a rule. Assumes nothing.
use Rattle.std.specs.Prelude.{◌≡◌, ℕ, Bool, true, false, Ok, Err, Result}
use Rattle.interfaces.specs.declared.refusal.RuleRefusal.{RuleRefusal}
use Rattle.interfaces.specs.declared.refusal.RuleRefusal.TheVariants.{OutOfRange}

-- the number of each refusal
abbrev pub number_of : RuleRefusal → ℕ
number_of OutOfRange = 14

-- A rule is made, of these numbers, exactly if they are in range; else it is refused with 14.
abbrev pub Made : {R : Type 0} → (in_range : Bool) → (of_these : R → Type 0) → Result R RuleRefusal → Type 0
Made in_range of_these (Ok rule) = (in_range ≡ true) × of_these rule
Made in_range of_these (Err refusal) = (in_range ≡ false) × (number_of refusal ≡ 14)
