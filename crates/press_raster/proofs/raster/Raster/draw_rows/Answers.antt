use Rattle.std.proofs.Common.{arith, ◌≡◌, ◌∙◌, ◌&&◌, Bool, true, false, Some, is_some, ap, sym, refl}
use Rattle.std.specs.List.{list_any}
use Rattle.std.proofs.lemmas.Bool.{true≢false}
use Rattle.press_bits.specs.Bands.{BandedPage}
use Rattle.press_bits.specs.Lines.{bytes_per_line}
use Rattle.press_bits.specs.Page.{Page}
use Rattle.press_canvas.specs.Turned.{page_of_frame}
use Rattle.press_rows.specs.Row.{fitted}
use Rattle.press_raster.specs.Graphics.{graphics, takes_row}
use Rattle.press_raster.specs.Settings.{items_of}
use Rattle.press_raster.specs.declared.drawing.RowSetup.{RowSetup}
use Rattle.press_raster.proofs.DrawingLemmas.{drawn-fitted}
use Rattle.press_raster.proofs.raster.Raster.draw_rows.Goals as goal

second : (a b : Bool) → (a && b) ≡ true → (a ≡ true) × (b ≡ true)
second true b both = (refl, both)
second false b both = absurd (true≢false (sym both))

pub returns-clause-rows : goal.returns-clause-rows
returns-clause-rows c =
    let environment = c.args.environment.now in
    let settings = c.args.settings in
    let brush = c.args.brush.now in
    let position = c.in-Some.position in
    let seed = c.self.inside.seed.items in
    let setup : RowSetup = c.new-setup.result in
    let bands : BandedPage = c.bands-bands.result.now in
    let cursor = c.args.cursor.now in
    let o = environment.page_setup.orientation in
    let page : Page = page_of_frame o c.args.frame.now in
    let on : graphics (Some position) seed ≡ c.args.self.now = ap (λ place. graphics place seed) (sym c.in-Some.is) ∙ c.self.view_is in
    let taken = second (takes_row settings c.args.self.now) (list_any is_some (items_of settings.coding c.args.data.now)) c.requires in
    let lies = ap (λ (s : RowSetup). s.environment.page_setup.orientation) c.new-setup.ensures.setup in
    grind (
      arith,
      lies,
      on,
      c.swap.ensures.x_after,
      c.in_ok-draw.ensures.items,
      c.new-setup.ensures.setup,
      drawn-fitted setup environment settings brush bands.page.width position seed c.begin.new.self bands page cursor (items_of settings.coding c.args.data.now)
          c.new-setup.ensures.setup c.in_ok-begin.ensures.position (c.in_ok-begin.ensures.seed ∙ ap (fitted (bytes_per_line setup.dots)) c.deref.ensures.value)
          (ap (page_of_frame o) c.bands-bands.ensures.value) (ap (takes_row settings) on ∙ taken.0) taken.1,
    )
