use Rattle.std.proofs.Common.{◌≡◌, ◌^◌, ◌<◌, drop}
use Rattle.std.specs.Str.{all_ascii_digits}
use Rattle.text.specs.Numbers.{read_on}
use Rattle.text.proofs.numbers.magnitude.Given as goal

abbrev pub invariant-loop-digit : goal.invariant-loop-digit
invariant-loop-digit l =
    (all_ascii_digits (drop l.digit-index l.digits) ≡ all_ascii_digits l.digits)
    × (read_on l.value (drop l.digit-index l.digits) ≡ read_on 0 l.digits)
    × (l.value < 10 ^ l.digit-index)
