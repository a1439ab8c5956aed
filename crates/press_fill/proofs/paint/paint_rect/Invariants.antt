use Rattle.std.proofs.Common.{◌≡◌}
use Rattle.press_bits.specs.Mark.{painted, box_mark}
use Rattle.press_pattern.specs.Tiling.{tile_dot}
use Rattle.press_fill.proofs.paint.paint_rect.Given as goal

-- the lines so far are painted, and the same lines are ready
abbrev pub invariant-loop-line : goal.invariant-loop-line
invariant-loop-line l =
    (l.page.page ≡ painted l.fn.page.page (box_mark l.x l.y l.columns l.line (tile_dot l.tile) l.mode)) × (l.page.ready ≡ l.fn.page.ready)
