use Rattle.std.proofs.Common.{◌≡◌, ◌+◌, ◌∙◌, ℕ, refl, pos, to_z, of_z, w64, arith}
use Rattle.std.proofs.lemmas.Int.{to_z_pos}
use Rattle.press_bits.specs.Mark.{row, row_dot}
use Rattle.press_page.specs.declared.media.Orientation.TheVariants.{Portrait}
use Rattle.press_raster.proofs.StripLemmas.{painted_row, painted_strip_no_lines, painted_strip_line, painted_strip_cut}
use Rattle.press_raster.proofs.row_strip.paint_lines.Goals as goal

pub loop-line-init : goal.loop-line-init
loop-line-init c = (
  painted_strip_no_lines Portrait c.args.frame.now.page c.args.corner.x c.args.corner.y c.args.source.dots
      (row_dot c.args.source.bits.now) c.args.brush.now.tile c.args.brush.now.mode c.height.ensures.inside,
  refl,
)

pub loop-line-preserved : goal.loop-line-preserved
loop-line-preserved c =
    let y : ℕ = c.args.corner.y + c.loop-line.line in
    let column : to_z w64 (of_z w64 c.from.result) ≡ pos c.args.corner.x = grind (arith, to_z_pos) in
    let line : to_z w64 (of_z w64 c.from-in-loop-line.result) ≡ pos y = grind (arith, to_z_pos) in (
      painted_strip_line Portrait c.args.frame.now.page c.loop-line.frame.page c.paint_row.new.self.page c.args.corner.x c.args.corner.y c.args.source.dots c.loop-line.line
          (row_dot c.args.source.bits.now) c.args.brush.now.tile c.args.brush.now.mode c.loop-line.invariant.0
          (cc (
            c.paint_row.ensures.painted,
            column,
            line,
            c.line-pattern.ensures.row,
            painted_row c.loop-line.frame.page c.args.corner.x y (row c.args.source) c.args.brush.now.tile c.args.brush.now.mode,
          )),
      c.paint_row.ensures.ready ∙ c.loop-line.invariant.1,
    )

pub returns : goal.returns
returns c =
    let frame = c.args.frame.now.page in
    let lines = c.cut_length-lines.result in
    let last : c.loop-line.line ≡ lines = omega arith in
    record {
      painted = grind (
        arith,
        last,
        c.loop-line.invariant.0,
        painted_strip_cut Portrait frame c.args.corner.x c.args.corner.y c.args.source.dots lines c.args.source.dots c.args.lines (row_dot c.args.source.bits.now) c.args.brush.now.tile
            c.args.brush.now.mode refl (grind (arith, c.height.ensures.height, c.cut_length-lines.ensures.same_end)),
      );
      ready = c.loop-line.invariant.1;
    }
