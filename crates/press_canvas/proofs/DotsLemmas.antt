-- Eight dots of a page that lies in landscape.
use Rattle.std.proofs.Common.{◌≡◌, ℕ, ◌+◌, ◌-◌, ◌*◌, ◌<◌, inl, inr, sym, ◌∙◌, arith}
use Rattle.std.proofs.lemmas.Bool.{cases_lt}
use Rattle.press_bits.specs.Lines.{eight_from}
use Rattle.press_bits.specs.Page.{Page, black_at, HasNoDotOutside}
use Rattle.press_bits.proofs.ColumnLemmas.{eight_same}
use Rattle.press_page.specs.PageSetup.{turned}
use Rattle.press_page.specs.declared.media.Orientation.TheVariants.{Landscape}
use Rattle.press_page.specs.declared.place.Extent.{Extent}
use Rattle.press_canvas.specs.Turned.{extent, page_of_frame}
use Rattle.press_canvas.proofs.CatchLemmas.{dot_of_page, extent_of_page, white_outside}

-- eight dots of a line of the page are eight of a column of its frame
pub landscape_dots : (frame : Page) (page : Extent) (index y : ℕ) → HasNoDotOutside frame → page ≡ extent (page_of_frame Landscape frame) → y < page.height
    → eight_from (black_at frame (page.height - 1 - y)) (8 * index) ≡ eight_from (λ n. black_at (page_of_frame Landscape frame) n y) (8 * index)
landscape_dots frame page index y none is high =
    eight_same (black_at frame (page.height - 1 - y)) (λ n. black_at (page_of_frame Landscape frame) n y) (8 * index) (8 * index) (λ j few. dot (8 * index + j))
  where
    sized : page ≡ turned Landscape (extent frame)
    sized = is ∙ extent_of_page Landscape frame

    dot : (n : ℕ) → black_at frame (page.height - 1 - y) n ≡ black_at (page_of_frame Landscape frame) n y
    dot n =
        elim (cases_lt n page.width) [
          | inl wide ↦ sym (dot_of_page Landscape frame page n y is wide high)
          | inr past ↦ grind (arith, none.inside (page.height - 1 - y) n, sized, white_outside Landscape frame page n y is)
        ]
