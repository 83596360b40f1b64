use Rattle.std.proofs.Common.{◌≤◌, length, sym, ◌∙◌, arith}
use Rattle.std.proofs.lemmas.Bool.{eqb-false}
use Rattle.text.proofs.Readings.{magnitude_stops, digits_more, read_on_more, magnitude_ends, below_ten_times, below_ten_digits}
use Rattle.text.proofs.numbers.magnitude.Goals as goal

pub returns-then-not-is_ascii_digit : goal.returns-then-not-is_ascii_digit
returns-then-not-is_ascii_digit c = record {
  value = sym (magnitude_stops c.args.digits.now c.loop-digit.digit-index c.loop-digit-test.true (sym c.if-not-is_ascii_digit.ensures.value) c.loop-digit.invariant.0);
  small = tt;
}

pub loop-digit-preserved : goal.loop-digit-preserved
loop-digit-preserved c =
    let digits = c.args.digits.now in
    let i = c.loop-digit.digit-index in
    let digit : c.from.result ≤ 9 = omega (arith, c.if-not-is_ascii_digit.ensures.cases) in (
      sym (digits_more digits i c.loop-digit-test.true (sym c.if-not-is_ascii_digit.ensures.value)) ∙ c.loop-digit.invariant.0,
      rw c.from.ensures (sym (read_on_more c.loop-digit.value digits i c.loop-digit-test.true) ∙ c.loop-digit.invariant.1),
      below_ten_times c.loop-digit.value i c.from.result c.loop-digit.invariant.2 digit,
    )

pub returns : goal.returns
returns c =
    let digits = c.args.digits.now in
    let i = c.loop-digit.digit-index in
    let some : 1 ≤ length digits = omega (arith, eqb-false (length digits) 0 (sym c.if-is_empty.ensures)) in
    record {
      value = sym (magnitude_ends digits c.loop-digit.value i (omega arith) some (omega arith) c.loop-digit.invariant.0 c.loop-digit.invariant.1);
      small = below_ten_digits c.loop-digit.value i c.loop-digit.invariant.2 (omega arith);
    }
