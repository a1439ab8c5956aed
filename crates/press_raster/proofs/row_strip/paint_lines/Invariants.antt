use Rattle.std.proofs.Common.{◌≡◌}
use Rattle.press_bits.specs.Mark.{painted, row_dot}
use Rattle.press_page.specs.declared.media.Orientation.TheVariants.{Portrait}
use Rattle.press_raster.specs.Mark.{strip_mark}
use Rattle.press_raster.proofs.row_strip.paint_lines.Given as goal

-- the lines so far are painted, and the lines that are ready stay
abbrev pub invariant-loop-line : goal.invariant-loop-line
invariant-loop-line l =
    (l.frame.page
    ≡ painted l.fn.frame.page (strip_mark Portrait l.fn.frame.page.width l.fn.frame.page.height l.corner.x l.corner.y l.source.dots l.line
    (row_dot l.source.bits.now) l.brush.tile l.brush.mode))
    × (l.frame.ready ≡ l.fn.frame.ready)
