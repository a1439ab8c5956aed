use Rattle.std.proofs.Common.{arith}
use Rattle.press_raster.proofs.DrawingLemmas.{none_white-run}
use Rattle.press_raster.proofs.raster.blocks_have_white_seed.Goals as goal

pub loop-run-preserved : goal.loop-run-preserved
loop-run-preserved c =
    let run = c.in_default-run in
    let others = c.next_run.new.self in
    grind (arith, c.in-Some.ensures.prefix, run.is, none_white-run run.field-2 (run.field-0, run.field-1.now) others, c.loop-run.invariant)
