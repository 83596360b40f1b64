use Rattle.std.proofs.Common.{◌+◌, length, get_or, drop, arith}
use Rattle.std.proofs.lemmas.List.{at_drop_more, at_drop_all}
use Rattle.text.specs.Text.{fields}
use Rattle.text.proofs.Cuts.{length_pieces_more, length_pieces_same}
use Rattle.text.proofs.fields.field_count.Goals as goal
use Rattle.text.proofs.fields.field_count.Goals.{then-byte-eq44, else-byte-eq44}

pub loop-byte-preserved : goal.loop-byte-preserved
loop-byte-preserved c =
    let i = c.loop-byte.byte-index in
    let line = c.args.line.now in
    let rest = drop (i + 1) line in
    let e = at_drop_more (λ bs. length (fields bs)) line i 0 (omega arith) in
    elim c.if-byte-eq44.branch [
      | then-byte-eq44 w ↦ let f = length_pieces_more 44 (get_or line i 0) rest (omega arith) in (omega (arith, e, f), omega arith)
      | else-byte-eq44 w ↦ let f = length_pieces_same 44 (get_or line i 0) rest w.if-byte-eq44.false in (omega (arith, e, f), omega arith)
    ]

pub returns : goal.returns
returns c =
    let e = at_drop_all (λ bs. length (fields bs)) c.args.line.now c.loop-byte.byte-index (omega arith) in
    omega (arith, e)
