use Rattle.std.proofs.Common.{◌≡◌, ◌∙◌, ◌+◌, ◌++◌, ap, Some, arith}
use Rattle.press_rows.specs.Blocks.{count_rows, items_of_run}
use Rattle.press_raster.proofs.DrawingLemmas.{count_rows-run}
use Rattle.press_raster.proofs.drawing.count_rows.Goals as goal

pub loop-run-preserved-in-Rows : goal.loop-run-preserved-in-Rows
loop-run-preserved-in-Rows c =
    let others = c.next_run.new.self in
    let prefix : count_rows c.loop-run.blocks ≡ c.in-Rows.count + count_rows others =
    ap count_rows (c.in-Some.ensures.prefix ∙ ap (λ run. items_of_run (Some run) ++ others) c.in-Rows.is) ∙ count_rows-run c.in-Rows.count (c.in-Rows.method, c.in-Rows.data.now) others in
    (omega (arith, prefix, c.loop-run.invariant, c.min-rows.ensures, c.saturating_add.ensures), omega (arith, c.min-rows.ensures))
