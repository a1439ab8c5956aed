use Rattle.std.proofs.Common.{◌∙◌, ◌+◌, replicate, pos, inl, inr, arith}
use Rattle.std.proofs.lemmas.Int.{ints}
use Rattle.press_bits.proofs.BandLemmas.{ready_within}
use Rattle.press_bits.specs.Mark.{Row, painted, row_mark}
use Rattle.press_bits.proofs.MarkLemmas.{height-painted, width-painted, painted_box_none, painted_box_row, painted_box_cut, IsAllBlack-replicate}
use Rattle.press_pattern.specs.Tiling.{Tiling, tile_dot, tile_row}
use Rattle.press_fill.proofs.FillLemmas.{repeated-tile_row, tile_dot-solid_black}
use Rattle.press_fill.proofs.paint.paint_rect.Goals as goal

pub loop-line-init : goal.loop-line-init
loop-line-init c = grind (arith, painted_box_none)

pub paint_line-requires-clause-ready : goal.paint_line-requires-clause-ready
paint_line-requires-clause-ready c = grind (arith, inl, repeated-tile_row, inr, ready_within, pos, height-painted, ints)

pub paint_line-requires-clause-inside : goal.paint_line-requires-clause-inside
paint_line-requires-clause-inside c = grind (arith, width-painted)

pub paint_line-requires-clause-line : goal.paint_line-requires-clause-line
paint_line-requires-clause-line c = grind (arith, height-painted)

pub paint_line-requires-clause-solid : goal.paint_line-requires-clause-solid
paint_line-requires-clause-solid c = grind (arith, repeated-tile_row, tile_dot-solid_black)

pub loop-line-preserved : goal.loop-line-preserved
loop-line-preserved c =
    let x = c.args.rect.x in
    let y = c.args.rect.y in
    let columns = c.cut_length-columns.result in
    let line = c.loop-line.line in
    let tile : Tiling = c.args.tile.now in
    let black : Row = record { bits = replicate 2048 255; dots = columns } in
    let pattern : Row = record { bits = tile_row tile (y + line); dots = tile.width } in (
      c.paint_line.ensures.painted
          ∙ (λ i. painted (c.loop-line.invariant.0 i) (row_mark (pos x) (pos (y + line)) black (c.line.ensures.row i) c.args.mode))
          ∙ painted_box_row c.args.page.now.page x y line black pattern (tile_dot tile) c.args.mode
          (IsAllBlack-replicate 2048 columns (omega arith)) (λ column _ _. repeated-tile_row tile column (y + line)),
      c.paint_line.ensures.ready ∙ c.loop-line.invariant.1,
    )

pub returns : goal.returns
returns c = grind (arith, painted_box_cut)
