use Rattle.std.proofs.Common.{refl, arith}
use Rattle.press_bits.specs.Mark.{row_dot}
use Rattle.press_bits.specs.Page.{Page}
use Rattle.press_bits.proofs.BandLemmas.{after_ok}
use Rattle.press_canvas.specs.Strip.{place_at}
use Rattle.press_canvas.proofs.ColumnLemmas.{place_within}
use Rattle.press_canvas.proofs.LineLemmas.{row_dot-prefix, white_line, with_line_alike}
use Rattle.press_canvas.proofs.lines.put_row.Goals as goal

pub returns-then-is_white-clause-put : goal.returns-then-is_white-clause-put
returns-then-is_white-clause-put c =
    let page : Page = c.args.page.now in
    let bits = c.args.bits.now in
    white_line page c.args.y (λ x. row_dot bits (place_at c.args.back page.width x)) c.width-dots.ensures.inside c.requires.white
    (λ x left. grind (
      arith,
      place_within c.args.back page.width x left,
      row_dot-prefix bits c.div_ceil.result (place_at c.args.back page.width x),
      c.if-is_white.ensures refl (place_at c.args.back page.width x),
    ))

pub returns-clause-put : goal.returns-clause-put
returns-clause-put c = grind (arith, after_ok, with_line_alike)
