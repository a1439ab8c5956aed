use Rattle.std.proofs.Common.{◌≡◌, ℕ, ◌<◌, sym, subst, arith}
use Rattle.press_page.specs.Place.{placed_dot}
use Rattle.press_page.specs.declared.place.Extent.{Extent}
use Rattle.press_canvas.specs.Changes.{AreOn, IsBeside}
use Rattle.press_canvas.specs.Turned.{extent, frame_page, page_of_frame}
use Rattle.press_bits.specs.Patches.{ChangedIn}
use Rattle.press_page.specs.declared.media.Orientation.{Orientation}
use Rattle.press_canvas.proofs.CatchLemmas.{extent_of_frame, pages_changed}
use Rattle.press_canvas.proofs.frame.Frame.take_lines.Goals as goal

pub on_page-changed-requires : goal.on_page-changed-requires
on_page-changed-requires c = grind (arith, extent_of_frame)

pub returns-clause-region : goal.returns-clause-region
returns-clause-region c =
    let frame = c.args.self.now in
    let after = c.args.after.now in
    let o = frame.orientation in
    let dots = c.changed_dots-dots in
    let changed = c.requires.changed in
    let page : c.page_extent.result ≡ extent (frame_page frame) = c.page_extent.ensures.extent in
    let beside = subst (λ (e : Extent). (x y : ℕ) → x < e.width → y < e.height → IsBeside c.on_page-changed.result x y
    → (let dot = placed_dot o e.width e.height x y in IsBeside dots.result dot.0 dot.1)) page c.on_page-changed.ensures.beside in
    let on = subst (λ (e : Extent). AreOn e c.on_page-changed.result) page c.on_page-changed.ensures.on in
    subst (λ (lies : Orientation). ChangedIn (frame_page frame) (page_of_frame lies after.bitmap) c.region_of.result) (sym c.requires.alike)
    (pages_changed o frame.bitmap after.bitmap dots.result c.on_page-changed.result c.region_of.result
    (λ i. record { width = changed.differ.width i; height = changed.differ.height i }) changed.real
    dots.ensures.inside.0 dots.ensures.inside.1 dots.ensures.agree beside c.region_of.ensures.beside (c.region_of.ensures.lies (frame_page frame) on))
