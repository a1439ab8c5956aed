use Rattle.std.proofs.Common.{arith}
use Rattle.press_bits.proofs.PageLemmas.{width-page_where, height-page_where}
use Rattle.press_canvas.proofs.ColumnLemmas.{place_within}
use Rattle.press_canvas.proofs.LineLemmas.{lines_more, lines_none, lines_all, next_white, upright_dot, upright_page}
use Rattle.press_canvas.proofs.turning.put_lines.Goals as goal

pub loop-y-init : goal.loop-y-init
loop-y-init c = grind (arith, lines_none)

pub put_row-requires-clause-enough : goal.put_row-requires-clause-enough
put_row-requires-clause-enough c = grind (arith, width-page_where)

pub put_row-requires-clause-white : goal.put_row-requires-clause-white
put_row-requires-clause-white c = grind (arith, next_white, width-page_where, height-page_where)

pub loop-y-preserved : goal.loop-y-preserved
loop-y-preserved c = grind (arith, width-page_where, lines_more, place_within, upright_dot)

pub returns : goal.returns
returns c = grind (arith, lines_all, upright_page)
