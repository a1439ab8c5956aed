use Rattle.std.proofs.Common.{◌≡◌, is_none, length}
use Rattle.std.specs.List.{list_any}
use Rattle.press_raster.proofs.raster.blocks_have_white_seed.Given as goal

abbrev pub invariant-loop-run : goal.invariant-loop-run
invariant-loop-run l = list_any is_none l.blocks ≡ list_any is_none l.fn.blocks

abbrev pub decreases-loop-run : goal.decreases-loop-run
decreases-loop-run l = length l.blocks
