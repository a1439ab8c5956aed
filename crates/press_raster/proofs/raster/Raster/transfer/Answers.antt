use Rattle.std.proofs.Common.{◌∙◌, ap, sym}
use Rattle.press_raster.specs.Rows.{drawn}
use Rattle.press_raster.specs.Settings.{items_of}
use Rattle.press_raster.proofs.DrawingLemmas.{with_items-idle}
use Rattle.press_raster.proofs.raster.Raster.transfer.Goals as goal

pub returns-then-not-takes_rows-clause-rows : goal.returns-then-not-takes_rows-clause-rows
returns-then-not-takes_rows-clause-rows c =
    let page = c.args.page.now in
    let cursor = c.args.cursor.now in
    ap (λ g. drawn g page cursor) c.pass.ensures
    ∙ sym (with_items-idle c.args.environment.now c.args.settings c.args.brush.now (items_of c.args.settings.coding c.args.data.now) (drawn c.args.self.now page cursor)
    (sym c.takes_rows.ensures ∙ c.if-not-takes_rows.true))
