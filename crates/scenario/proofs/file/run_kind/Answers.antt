use Rattle.std.proofs.Common.{string_bytes, rules}
use Rattle.scenario.specs.Left.{lines_left}
use Rattle.scenario.proofs.Runs.{opened, written_as}
use Rattle.scenario.proofs.file.run_kind.Goals as goal

pub returns : goal.returns
returns g c =
    written_as c.run_lines.result (string_bytes c.args.out.now) (string_bytes c.run_lines.new.out) _ _
    (opened g.V.Amount.addition g.V.Kind.form c.args.size _ _ (lines_left c.args.lines) c.in-Ok.ensures (search rules))
    c.run_lines.ensures

pub returns-in-Err : goal.returns-in-Err
returns-in-Err g c =
    let e = opened g.V.Amount.addition g.V.Kind.form c.args.size _ _ (lines_left c.args.lines) c.in-Err.ensures (search rules) in
    search rules
