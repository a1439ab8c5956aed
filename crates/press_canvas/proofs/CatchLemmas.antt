-- Pages of frames that differ in a rectangle of their dots.
use Rattle.std.proofs.Common.{◌≡◌, ◌≢◌, ◌<◌, ◌≤◌, ◌⊎◌, ◌&&◌, ℕ, Bool, false, refl, sym, ap, subst, ◌∙◌, arith}
use Rattle.std.specs.Prelude.{nat_lt}
use Rattle.std.proofs.lemmas.Bool.Decides.{nat_tests}
use Rattle.press_bits.specs.Page.{Page, black_at, HasNoDotOutside}
use Rattle.press_bits.specs.Patches.{AgreeBeside, ChangedIn, LiesOn, is_in}
use Rattle.press_bits.specs.declared.region.Region.{Region}
use Rattle.press_bits.proofs.PageLemmas.{black_at-page_where_all}
use Rattle.press_page.specs.PageSetup.{turned}
use Rattle.press_page.specs.Place.{placed_dot}
use Rattle.press_page.specs.declared.media.Orientation.{Orientation}
use Rattle.press_page.specs.declared.media.Orientation.TheVariants.{Portrait, Landscape, ReversePortrait, ReverseLandscape}
use Rattle.press_page.specs.declared.place.Extent.{Extent}
use Rattle.press_canvas.specs.Changes.{AgreeAround, AgreeBesideLines, IsBeside}
use Rattle.press_canvas.specs.declared.changes.Rectangle.{Rectangle}
use Rattle.press_canvas.specs.Turned.{extent, opposite, page_of_frame, turned_dot, turned_page}
use Rattle.press_canvas.proofs.FrameLemmas.{page_laid, turned_same}
use Rattle.press_canvas.proofs.TurnedLemmas.{black_at-turned_page, height-turned_page, placed_forth, turned_page-HasNoDotOutside, width-turned_page}

-- the page of a frame has the dots of the frame, turned
pub extent_of_page : (o : Orientation) (frame : Page) → extent (page_of_frame o frame) ≡ turned o (extent frame)
extent_of_page o frame = grind (arith, width-turned_page, height-turned_page)

-- and the frame those of its page
pub extent_of_frame : (o : Orientation) (frame : Page) (page : Extent) → page ≡ extent (page_of_frame o frame) → turned o page ≡ extent frame
extent_of_frame o frame page is = ap (turned o) (is ∙ extent_of_page o frame) ∙ turned_same o (extent frame)

-- frames that lie alike, of pages of one size, have one size
same_extent : (o : Orientation) (before after : Page) → extent (page_of_frame o after) ≡ extent (page_of_frame o before) → extent after ≡ extent before
same_extent o before after same = sym (extent_of_frame o after (extent (page_of_frame o before)) (sym same)) ∙ extent_of_frame o before (extent (page_of_frame o before)) refl

-- a frame is its page, laid as the frame lies
frame_laid : (o : Orientation) (frame : Page) → HasNoDotOutside frame → page_of_frame (opposite o) (page_of_frame o frame) ≡ frame
frame_laid Portrait frame none = page_laid Portrait frame none
frame_laid Landscape frame none = page_laid ReverseLandscape frame none
frame_laid ReversePortrait frame none = page_laid ReversePortrait frame none
frame_laid ReverseLandscape frame none = page_laid Landscape frame none

-- Pages whose frames differ in these dots differ in the region that holds those dots of the page.
pub pages_changed : (o : Orientation) (before after : Page) (dots there : Rectangle) (region : Region) → extent after ≡ extent before → before ≢ after
    → HasNoDotOutside before → HasNoDotOutside after → AgreeAround before after dots
    → (let page = extent (page_of_frame o before) in
    ((x y : ℕ) → x < page.width → y < page.height → IsBeside there x y → (let dot = placed_dot o page.width page.height x y in IsBeside dots dot.0 dot.1)))
    → ((x y : ℕ) → is_in region x y ≡ false → IsBeside there x y) → LiesOn (page_of_frame o before) region
    → ChangedIn (page_of_frame o before) (page_of_frame o after) region
unfolding turned_page
pages_changed o before after dots there region same other none_before none_after agree beside out lies = record {
  differ = record {
    width = ap (λ (e : Extent). e.width) sizes;
    height = ap (λ (e : Extent). e.height) sizes;
    outside = λ x y apart. black_at-page_where_all (size after).width (size after).height _ x y ∙ dot x y apart ∙ sym (black_at-page_where_all (size before).width (size before).height _ x y);
  };
  lies = lies;
  real = λ equal. other (sym (frame_laid o before none_before) ∙ ap (page_of_frame (opposite o)) equal ∙ frame_laid o after none_after);
}
  where
    size : Page → Extent
    size frame = turned o (extent frame)

    sizes : extent (page_of_frame o after) ≡ extent (page_of_frame o before)
    sizes = grind (arith, extent_of_page o after, same, extent_of_page o before)

    at : (e : Extent) → Page → (x y : ℕ) → Bool
    at e frame x y = nat_lt x e.width && (nat_lt y e.height && turned_dot o e.width e.height frame x y)

    wide : extent (page_of_frame o before) ≡ size before
    wide = extent_of_page o before

    dot : (x y : ℕ) → is_in region x y ≡ false → at (size after) after x y ≡ at (size before) before x y
    dot x y apart =
        let d = placed_dot o (size before).width (size before).height x y in
        grind (arith, nat_tests, wide, same, beside x y, out x y apart, agree d.0 d.1)

-- ---- dots of the page of a frame

pub dot_of_page : (o : Orientation) (frame : Page) (page : Extent) (x y : ℕ) → page ≡ extent (page_of_frame o frame) → x < page.width → y < page.height
    → black_at (page_of_frame o frame) x y ≡ (let dot = placed_dot o page.width page.height x y in black_at frame dot.0 dot.1)
dot_of_page o frame page x y is wide high = grind (arith, extent_of_page, black_at-turned_page)

-- frames that lie so agree beside lines where their pages do
pub frames_beside : (o : Orientation) (before after : Page) (first end : ℕ) → extent after ≡ extent before
    → AgreeBesideLines o first end (page_of_frame o before) (page_of_frame o after) → AgreeBeside first end before after
frames_beside o before after first end same beside x y wide high apart =
    let page : Extent = turned o (extent before) in
    let frame : turned o page ≡ extent before = turned_same o (extent before) in
    let size : extent (page_of_frame o before) ≡ page = extent_of_page o before in
    let back = placed_forth o page.width page.height x y (subst (λ (e : Extent). x < e.width) (sym frame) wide) (subst (λ (e : Extent). y < e.height) (sym frame) high) in
    let there = placed_dot (opposite o) (turned o page).width (turned o page).height x y in
    let within : there.0 < (extent (page_of_frame o before)).width = subst (λ (e : Extent). there.0 < e.width) (sym size) back.0 in
    let above : there.1 < (extent (page_of_frame o before)).height = subst (λ (e : Extent). there.1 < e.height) (sym size) back.1 in
    let sizes : extent (page_of_frame o before) ≡ extent (page_of_frame o after) = size ∙ ap (turned o) (sym same) ∙ sym (extent_of_page o after) in
    let at : placed_dot o (page_of_frame o before).width (page_of_frame o before).height there.0 there.1 ≡ (x, y) =
    (λ i. placed_dot o (size i).width (size i).height there.0 there.1) ∙ back.2 in
    let dot : (frame : Page) → extent (page_of_frame o before) ≡ extent (page_of_frame o frame) → black_at (page_of_frame o frame) there.0 there.1 ≡ black_at frame x y
    = λ frame is. dot_of_page o frame (extent (page_of_frame o before)) there.0 there.1 is within above ∙ ap (λ (d : ℕ × ℕ). black_at frame d.0 d.1) at in
    grind (arith, dot after sizes, beside there.0 there.1 within above (subst (λ (d : ℕ × ℕ). (d.1 < first) ⊎ (end ≤ d.1)) (sym at) apart), dot before refl)

-- frames of pages of one size have one size, as they lie alike
pub laid_extent : (o p : Orientation) (before after : Page) (page : Page) → page_of_frame p before ≡ page → p ≡ o → extent (page_of_frame o after) ≡ extent page → extent after ≡ extent before
laid_extent o p before after page same lies sized = same_extent o before after (sized ∙ ap extent (sym same ∙ ap (λ q. page_of_frame q before) lies))

pub white_outside : (o : Orientation) (frame : Page) (page : Extent) (x y : ℕ) → page ≡ extent (page_of_frame o frame) → (x < page.width → y < page.height → ⊥)
    → false ≡ black_at (page_of_frame o frame) x y
white_outside o frame page x y is out =
    let size : Extent = turned o (extent frame) in
    grind (arith, is, (turned_page-HasNoDotOutside o size.width size.height frame).inside x y, width-turned_page, height-turned_page)
