use Rattle.std.proofs.Common.{◌+◌, ◌*◌, length, ap, ap₂, refl, arith}
use Rattle.grid.proofs.Rows.{row_ends, row_decides}
use Rattle.grid.proofs.level.Level.row_agrees.Goals as goal

pub returns : goal.returns
returns c whole =
    let o = c.args.self.layout.now in
    let n = c.args.self.number in
    let y = c.args.y in
    let w = c.width-width.result in
    let ew = c.width-width.ensures.0 in
    row_decides o c.args.marks.now c.paint_row.new.row n y (c.start.result + y * w) w _ _ c.get.result _ c.eq.result
    (ap₂ ◌+◌ c.start.ensures.0 (ap (λ v. y * v) ew)) ew
    (row_ends o n y c.start.result w (length c.args.marks.now) c.start.ensures.0 ew whole c.args.self.in_layout c.requires) (omega arith) (omega arith) (omega arith) refl c.paint_row.ensures
    c.get.ensures.lookup c.eq.ensures
