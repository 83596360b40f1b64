use Rattle.std.proofs.Common.{◌≡◌, ◌+◌, ◌≤◌, length, drop}
use Rattle.text.specs.Text.{fields}
use Rattle.text.proofs.fields.field_count.Given as goal

abbrev pub invariant-loop-byte : goal.invariant-loop-byte
invariant-loop-byte l = (l.count + length (fields (drop l.byte-index l.line)) ≡ 1 + length (fields l.line)) × (l.count ≤ 1 + l.byte-index)
