use Rattle.std.proofs.Common.{◌≡◌, ◌∙◌, ◌*◌, ap, sym, min, arith}
use Rattle.std.proofs.lemmas.Result.{on_ok_weaker}
use Rattle.press_bits.specs.Page.{Page}
use Rattle.press_page.specs.declared.place.FrameLines.{FrameLines}
use Rattle.press_raster.specs.Drawing.{layout, lines_at, lines_of_row, last_line}
use Rattle.press_raster.proofs.RowsReadyLemmas.{rows_ready-made}
use Rattle.press_raster.proofs.drawing.RowSetup.ready.Goals as goal

pub returns-clause-ready : goal.returns-clause-ready
returns-clause-ready c =
    let setup = c.args.self.now in
    let high : c.ready.new.frame.page.height ≡ c.height.result = ap (λ (p : Page). p.height) c.ready.ensures.dots ∙ sym c.height.ensures.height in
    let line : c.lines-line.result.first ≡ (lines_at setup c.args.cursor.now.y).first = ap (λ (l : FrameLines). l.first) c.lines-line.ensures in
    let first : c.min-first.result ≡ min (lines_at setup c.args.cursor.now.y).first (last_line setup.environment)
    = c.min-first.ensures ∙ (λ i. min (line i) (c.last_line.ensures i)) in
    let product : c.args.rows * c.lines_of_row.result ≡ c.args.rows * lines_of_row setup = ap (λ n. c.args.rows * n) c.lines_of_row.ensures.lines in
    on_ok_weaker c.ready.result
    (λ ready count most. rows_ready-made setup (layout c.ready.new.frame) c.args.cursor.now.y c.args.rows count c.min-first.result c.min-lines.result most first
    (omega (arith, high, c.height.ensures.most)) (omega (arith, high, product, c.min-lines.ensures, line)) ready)
    c.ready.ensures.ready
