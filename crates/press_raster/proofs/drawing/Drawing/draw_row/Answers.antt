use Rattle.press_bits.proofs.MarkLemmas.{height-painted}
use Rattle.press_bits.proofs.MarkLemmas.{width-painted}
use Rattle.std.proofs.Common.{arith}
use Rattle.std.proofs.Common.{◌≡◌, ◌∙◌, length, ap, sym}
use Rattle.std.proofs.lemmas.Bool.{true≢false}
use Rattle.std.proofs.lemmas.List.{with_items_is}
use Rattle.press_bits.specs.Lines.{bytes_per_line}
use Rattle.press_rows.specs.Row.{raster_row}
use Rattle.press_raster.specs.declared.drawing.Drawing.{Drawing}
use Rattle.press_raster.specs.Drawing.{layout}
use Rattle.press_raster.specs.declared.drawing.RowSetup.{RowSetup}
use Rattle.press_raster.proofs.DrawingLemmas.{row_drawn}
use Rattle.press_raster.proofs.RowsReadyLemmas.{row_ready}
use Rattle.press_raster.proofs.drawing.Drawing.draw_row.Goals as goal

pub returns-in_err-painted-clause-takes_none : goal.returns-in_err-painted-clause-takes_none
returns-in_err-painted-clause-takes_none c = λ ready.
    absurd (true≢false (sym (c.in_err-painted.ensures.takes_none (row_ready c.args.setup.now (layout c.args.frame.now) c.args.self.now
    c.args.cursor.now.y c.lines-lines.result c.requires c.lines-lines.ensures ready))))

pub returns-in_err-painted-clause-layout : goal.returns-in_err-painted-clause-layout
returns-in_err-painted-clause-layout c = λ ready.
    absurd (true≢false (sym (c.in_err-painted.ensures.takes_none (row_ready c.args.setup.now (layout c.args.frame.now) c.args.self.now
    c.args.cursor.now.y c.lines-lines.result c.requires c.lines-lines.ensures ready))))

pub returns-clause-layout : goal.returns-clause-layout
returns-clause-layout c = λ ready.
    grind (arith, width-painted, height-painted, c.in_ok-painted.ensures.painted, c.paint_across.ensures.ready (row_ready c.args.setup.now (layout c.args.frame.now) c.args.self.now c.args.cursor.now.y c.lines-lines.result c.requires c.lines-lines.ensures ready))

pub returns-clause-item : goal.returns-clause-item
returns-clause-item c =
    let setup : RowSetup = c.args.setup.now in
    let drawing : Drawing = c.args.self.now in
    let written = with_items_is drawing.row c.decode.new.out (c.decode.auto.out ∙ c.deref_mut.ensures.len) in
    let long : length c.deref_mut.result.now ≡ bytes_per_line setup.dots = ap length c.deref_mut.ensures.value ∙ c.requires.row in
    row_drawn setup c.args.brush.now drawing c.args.frame.now c.paint_across.new.frame c.args.cursor.now c.move_down-moved.new.cursor (c.args.row.method, c.args.row.bytes.now) c.lines-lines.result
    c.deref-2.result.now c.decode.new.out c.take_row-taken.new.self.seed.items c.take_row-taken.new.self.position
    c.requires (sym c.takes_row.ensures ∙ c.if-not-takes_row.false)
    (c.decode.ensures.row ∙ (λ i. raster_row c.args.row.method c.args.row.bytes.now (c.deref.ensures.value i) (long i)))
    (c.deref-2.ensures.value ∙ written) (c.take_row-taken.ensures.seed ∙ written) c.lines-lines.ensures c.take_row-taken.ensures.position c.move_down-moved.ensures.down c.in_ok-painted.ensures.painted
