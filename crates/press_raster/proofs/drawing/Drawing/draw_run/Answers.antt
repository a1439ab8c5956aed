use Rattle.std.proofs.Common.{◌≡◌, ◌∙◌, ◌-◌, ◌+◌, ◌<◌, ℕ, ℤ, suc, Some, Ok, ap, sym, subst, arith}
use Rattle.std.proofs.lemmas.Bool.{true≢false}
use Rattle.press_rows.specs.Blocks.{Item}
use Rattle.press_raster.specs.Drawing.{IsSetUp, Layout, RowsReady, drawn_by, layout}
use Rattle.press_raster.specs.Rows.{Drawn}
use Rattle.press_raster.specs.declared.drawing.RowSetup.{RowSetup}
use Rattle.press_raster.proofs.DrawingLemmas.{with_items-settled}
use Rattle.press_raster.proofs.RowsReadyLemmas.{rows_ready-fewer, rows_ready-next}
use Rattle.press_raster.proofs.drawing.Drawing.draw_run.Goals as goal

-- the next row
next_ready : (setup : RowSetup) (page now : Layout) (y : ℤ) (count drawn : ℕ) → now ≡ page → drawn < count → RowsReady setup page y (count - drawn) → RowsReady setup now y 1
next_ready setup page now y count drawn same more ready =
    subst (λ page. RowsReady setup page y 1) (sym same) (rows_ready-fewer setup page y 1 (count - drawn) (omega (arith, more)) ready)

pub returns-in_err-draw_row : goal.returns-in_err-draw_row
returns-in_err-draw_row c =
    absurd (true≢false (sym (c.in_err-draw_row.ensures.takes_none
    (next_ready c.args.setup.now (layout c.args.frame.now) (layout c.loop-drawn.frame) c.loop-drawn.cursor.y c.args.count
    c.loop-drawn.drawn
    c.loop-drawn.invariant.same_layout c.loop-drawn-test.true c.loop-drawn.invariant.ready))))

pub returns-then-not-branch-clause-layout : goal.returns-then-not-branch-clause-layout
returns-then-not-branch-clause-layout c =
    c.draw_row.ensures.layout (next_ready c.args.setup.now (layout c.args.frame.now) (layout c.loop-drawn.frame) c.loop-drawn.cursor.y c.args.count c.loop-drawn.drawn
    c.loop-drawn.invariant.same_layout c.loop-drawn-test.true c.loop-drawn.invariant.ready)
    ∙ c.loop-drawn.invariant.same_layout

pub returns-then-not-branch-clause-items : goal.returns-then-not-branch-clause-items
returns-then-not-branch-clause-items c =
    let setup = c.args.setup.now in
    let brush = c.args.brush.now in
    let item : Item = Some (c.args.row.method, c.args.row.bytes.now) in
    let d : Drawn = drawn_by setup c.loop-drawn.self c.loop-drawn.frame c.loop-drawn.cursor in
    let same = c.in_ok-draw_row.ensures.same (ap Ok c.if-not-branch.true) in
    grind (arith, same, with_items-settled setup.environment setup.settings brush (c.args.count - c.loop-drawn.drawn) item d (sym c.in_ok-draw_row.ensures.item ∙ same), c.loop-drawn.invariant.items)

pub loop-drawn-preserved : goal.loop-drawn-preserved
loop-drawn-preserved c =
    let setup = c.args.setup.now in
    let brush = c.args.brush.now in
    let item : Item = Some (c.args.row.method, c.args.row.bytes.now) in
    let d : Drawn = drawn_by setup c.loop-drawn.self c.loop-drawn.frame c.loop-drawn.cursor in
    let m : ℕ = c.args.count - (c.loop-drawn.drawn + 1) in
    let left : suc m ≡ c.args.count - c.loop-drawn.drawn = omega (arith, c.loop-drawn-test.true) in
    record {
      items =
          grind (arith, left, c.in_ok-draw_row.ensures.item, c.loop-drawn.invariant.items);
      same_layout =
          c.draw_row.ensures.layout (next_ready setup (layout c.args.frame.now) (layout c.loop-drawn.frame) c.loop-drawn.cursor.y c.args.count c.loop-drawn.drawn
          c.loop-drawn.invariant.same_layout c.loop-drawn-test.true c.loop-drawn.invariant.ready)
          ∙ c.loop-drawn.invariant.same_layout;
      setup = subst (λ page. IsSetUp setup page c.draw_row.new.self) c.loop-drawn.invariant.same_layout c.draw_row.ensures.setup;
      ready = subst (λ (e : Drawn). RowsReady setup (layout c.args.frame.now) e.cursor.y m) (sym c.in_ok-draw_row.ensures.item)
          (rows_ready-next setup brush (layout c.args.frame.now) d item m
          (subst (RowsReady setup (layout c.args.frame.now) c.loop-drawn.cursor.y) (sym left) c.loop-drawn.invariant.ready));
    }
