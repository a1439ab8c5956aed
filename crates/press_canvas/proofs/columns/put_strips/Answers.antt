use Rattle.std.proofs.Common.{◌≡◌, ℕ, ◌+◌, ◌*◌, ◌%◌, Bool, not, refl, arith}
use Rattle.press_bits.specs.Page.{Page}
use Rattle.press_bits.proofs.PageLemmas.{width-page_where}
use Rattle.press_canvas.specs.Strip.{place_at, strip_dot}
use Rattle.press_canvas.proofs.ColumnLemmas.{columns_more, columns_none, columns_all, across_page, next_column_white, place_within}
use Rattle.press_canvas.proofs.columns.put_strips.Goals as goal

pub loop-index-init : goal.loop-index-init
loop-index-init c = grind (arith, columns_none)

pub put_column-requires-clause-most : goal.put_column-requires-clause-most
put_column-requires-clause-most c = grind (arith, width-page_where)

pub put_column-requires-clause-white : goal.put_column-requires-clause-white
put_column-requires-clause-white c = grind (arith, not, next_column_white, width-page_where)

pub loop-line-preserved : goal.loop-line-preserved
loop-line-preserved c =
    let frame : Page = c.args.frame.now in
    let a : ℕ = 64 * c.loop-index.index + c.loop-line.line in
    let dots : ℕ → Bool = λ x. strip_dot c.fill_strip.new.strip (a % 64) (place_at c.args.back c.loop-line.page.width x) in
    let wide : c.loop-line.page.width ≡ frame.height = grind (arith, width-page_where) in
    record {
      room = c.put_column.ensures.room;
      page = grind (
        arith,
        c.in_ok-put_column.ensures.put,
        c.width-columns.ensures.width,
        columns_more c.args.back frame.height frame.width frame c.loop-line.page a dots refl c.loop-line.invariant.page
            (λ x left within. grind (arith, wide, c.fill_strip.ensures.dots c.loop-line.line (place_at c.args.back frame.height x), place_within c.args.back frame.height x)),
      );
    }

pub returns : goal.returns
returns c = grind (arith, columns_all, across_page)
