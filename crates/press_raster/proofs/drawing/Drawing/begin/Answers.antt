use Rattle.std.proofs.Common.{arith}
use Rattle.std.proofs.Common.{◌≡◌, ◌∙◌, ap, length}
use Rattle.std.proofs.lemmas.List.{with_items_is}
use Rattle.press_rows.specs.Row.{raster_row}
use Rattle.press_raster.proofs.drawing.Drawing.begin.Goals as goal

pub returns-clause-seed : goal.returns-clause-seed
unfolding raster_row
returns-clause-seed c =
    let long : length c.deref_mut.result.now ≡ c.line_bytes-width.result = ap length c.deref_mut.ensures.value ∙ c.in_ok-make_room-2.ensures in
    grind (arith, with_items_is c.make_room-2.new.bytes c.decode.new.out (c.decode.auto.out ∙ c.deref_mut.ensures.len), c.decode.ensures.row, long, c.line_bytes-width.ensures)
