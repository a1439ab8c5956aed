use Rattle.std.proofs.Common.{◌≡◌, ◌+◌, ◌≤◌, min, length}
use Rattle.press_bits.specs.Page.{longest_side}
use Rattle.press_rows.specs.Blocks.{count_rows}
use Rattle.press_raster.proofs.drawing.count_rows.Given as goal

abbrev pub invariant-loop-run : goal.invariant-loop-run
invariant-loop-run l =
    (min longest_side (l.rows + count_rows l.blocks) ≡ min longest_side (count_rows l.fn.blocks)) × (l.rows ≤ longest_side)

abbrev pub decreases-loop-run : goal.decreases-loop-run
decreases-loop-run l = length l.blocks
