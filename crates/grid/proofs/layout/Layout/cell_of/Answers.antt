use Rattle.std.proofs.Common.{◌≡◌, ap, ◌*◌, arith}
use Rattle.grid.specs.Sizes.{level_width, level_height, level_start}
use Rattle.grid.proofs.Levels.{offset_cell, past_level}
use Rattle.grid.proofs.layout.Layout.cell_of.Goals as goal

pub returns-then-offset-width : goal.returns-then-offset-width
returns-then-offset-width c =
    let s = c.args.self.now.size in
    let l = c.args.level in
    let at = c.in_ok-found.ensures in
    let start : c.start.result ≡ level_start s l = cc (at.0, at.1) in
    let width : c.width-width.result ≡ level_width s l = cc (at.0, at.1) in
    let height : c.height.result ≡ level_height s l = cc (at.0, at.1) in
    past_level s l c.in_ok-offset.offset c.args.index (omega (arith, start, c.in_ok-offset.ensures))
    (omega (arith, c.if-offset-width.true, ap (λ n. n * c.height.result) width, ap (λ n. level_width s l * n) height))

pub returns : goal.returns
returns c =
    let s = c.args.self.now.size in
    let l = c.args.level in
    let at = c.in_ok-found.ensures in
    let start : c.start.result ≡ level_start s l = cc (at.0, at.1) in
    let width : c.width-width.result ≡ level_width s l = cc (at.0, at.1) in
    let height : c.height.result ≡ level_height s l = cc (at.0, at.1) in
    let cell = offset_cell s l c.in_ok-offset.offset c.width-width.result width (rw (at.0, at.1) at c.in_ok-found.found.in_layout)
    (omega (arith, c.if-offset-width.false, ap (λ n. n * c.height.result) width, ap (λ n. level_width s l * n) height)) (omega (arith, c.width-width.ensures)) in
    (cell.0, omega (arith, cell.1, start, c.in_ok-offset.ensures))
