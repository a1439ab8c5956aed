use Rattle.std.proofs.Common.{◌≡◌, ◌∙◌, ◌+◌, ◌++◌, ◌≤◌, ◌∷◌, replicate, Some, None, ap, sym, subst, arith, rules}
use Rattle.press_canvas.specs.Turned.{page_of_frame}
use Rattle.press_rows.specs.Blocks.{Item, count_rows, items_of_run}
use Rattle.press_raster.specs.Drawing.{IsSetUp, RowsReady, drawn_by, layout}
use Rattle.press_raster.specs.Rows.{Drawn}
use Rattle.press_raster.proofs.DrawingLemmas.{count_rows-run, with_items-append}
use Rattle.press_raster.proofs.RowsReadyLemmas.{rows_ready-after, rows_ready-fewer}
use Rattle.press_raster.proofs.SeedLemmas.{whitened-graphics}
use Rattle.press_raster.proofs.drawing.Drawing.draw_blocks.Goals as goal

pub draw_run-requires-clause-ready : goal.draw_run-requires-clause-ready
draw_run-requires-clause-ready c =
    let setup = c.args.setup.now in
    let run = c.in-Rows in
    let others = c.next_run.new.self in
    let prefix : c.loop-run.blocks ≡ replicate run.count (Some (run.method, run.data.now)) ++ others = grind arith in
    let some : run.count ≤ count_rows c.loop-run.blocks = grind (arith, prefix, count_rows-run run.count (run.method, run.data.now) others) in
    subst (λ page. RowsReady setup page c.loop-run.cursor.y run.count) (sym c.loop-run.invariant.same_layout)
    (rows_ready-fewer setup (layout c.args.frame.now) c.loop-run.cursor.y run.count (count_rows c.loop-run.blocks) some c.loop-run.invariant.ready)

pub loop-run-preserved : goal.loop-run-preserved
loop-run-preserved c =
    let setup = c.args.setup.now in
    let brush = c.args.brush.now in
    let run = c.in-Rows in
    let item : Item = Some (run.method, run.data.now) in
    let others = c.next_run.new.self in
    let d : Drawn = drawn_by setup c.loop-run.self c.loop-run.frame c.loop-run.cursor in
    let prefix : c.loop-run.blocks ≡ replicate run.count item ++ others = grind arith in
    let all : count_rows c.loop-run.blocks ≡ run.count + count_rows others = grind (arith, prefix, count_rows-run run.count (run.method, run.data.now) others) in
    record {
      items =
          grind (arith, prefix, c.draw_run.ensures.items, with_items-append setup.environment setup.settings brush (replicate run.count item) others d, c.loop-run.invariant.items);
      same_layout = c.draw_run.ensures.layout ∙ c.loop-run.invariant.same_layout;
      setup = subst (λ page. IsSetUp setup page c.draw_run.new.self) c.loop-run.invariant.same_layout c.draw_run.ensures.setup;
      ready = subst (λ (e : Drawn). RowsReady setup (layout c.args.frame.now) e.cursor.y (count_rows others)) (sym c.draw_run.ensures.items)
          (rows_ready-after setup brush (layout c.args.frame.now) d item run.count (count_rows others) (count_rows c.loop-run.blocks) all c.loop-run.invariant.ready);
    }

pub loop-run-preserved-in-WhiteSeed : goal.loop-run-preserved-in-WhiteSeed
loop-run-preserved-in-WhiteSeed c =
    let setup = c.args.setup.now in
    let brush = c.args.brush.now in
    let others = c.next_run.new.self in
    let frame = c.loop-run.frame in
    let cursor = c.loop-run.cursor in
    let prefix : c.loop-run.blocks ≡ None ∷ others = c.in-Some.ensures.prefix ∙ ap (λ run. items_of_run (Some run) ++ others) c.in-WhiteSeed.is in
    let page = page_of_frame setup.environment.page_setup.orientation frame.page in
    let white = whitened-graphics (Some c.loop-run.self.position) c.loop-run.self.seed.items c.fill.new.self.items _ (c.fill.ensures.items (λ y same. same)) in
    let same : count_rows c.loop-run.blocks ≡ count_rows others = ap count_rows prefix in
    record {
      items =
          grind (arith, prefix, white, c.loop-run.invariant.items);
      same_layout = c.loop-run.invariant.same_layout;
      setup = record {
        same = c.loop-run.invariant.setup.same;
        seed = search rules;
        row = c.loop-run.invariant.setup.row;
        room = c.loop-run.invariant.setup.room;
      };
      ready = subst (λ n. RowsReady setup (layout c.args.frame.now) cursor.y n) same c.loop-run.invariant.ready;
    }
