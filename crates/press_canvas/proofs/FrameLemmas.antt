-- Frames and their pages.
use Rattle.std.proofs.Common.{◌≡◌, ℕ, sym, ap, ◌∙◌, arith}
use Rattle.press_bits.specs.Mark.{Mark, painted}
use Rattle.press_bits.specs.Page.{Page, blank, HasNoDotOutside}
use Rattle.press_bits.proofs.MarkLemmas.{width-painted, height-painted}
use Rattle.press_bits.proofs.PageLemmas.{page_where_itself, width-blank, height-blank}
use Rattle.press_page.specs.PageSetup.{turned}
use Rattle.press_page.specs.declared.media.Orientation.{Orientation}
use Rattle.press_page.specs.declared.media.Orientation.TheVariants.{Portrait}
use Rattle.press_page.specs.declared.place.Extent.{Extent}
use Rattle.press_canvas.specs.Turned.{extent, turned_page, page_of_frame, opposite, in_frame, on_page, frame_page}
use Rattle.press_canvas.specs.declared.frame.Frame.{Frame}
use Rattle.press_canvas.proofs.TurnedLemmas.{width-turned_page, height-turned_page, turned_back, turned_blank, painted_turned}

abbrev sized : (width height : ℕ) → Extent
sized width height = record { width = width; height = height }

-- a page of so many dots, whose frame has so many
abbrev page_sized : Orientation → Extent → Page → Page
page_sized o frame bitmap = let page = turned o frame in turned_page o page.width page.height bitmap

pub turned_same : (o : Orientation) (page : Extent) → turned o (turned o page) ≡ page
turned_same o page = grind arith

turned_opposite : (o : Orientation) (page : Extent) → turned o (turned (opposite o) page) ≡ page
turned_opposite o page = grind arith

opposite_twice : (o : Orientation) → opposite (opposite o) ≡ o
opposite_twice o = grind arith

-- in portrait the frame is the page
pub page_upright : (page : Page) → HasNoDotOutside page → page_of_frame Portrait page ≡ page
unfolding turned_page
page_upright page none = page_where_itself page none

-- the frame of a white page is white
pub frame_blank : (o : Orientation) (page size : Extent) → size ≡ turned o page → page_of_frame o (blank size.width size.height) ≡ blank page.width page.height
frame_blank o page size is = grind (arith, width-blank, height-blank, turned_blank)

-- a page that is laid as a frame is the page of that frame
pub page_laid : (o : Orientation) (page : Page) → HasNoDotOutside page → page_of_frame o (page_of_frame (opposite o) page) ≡ page
page_laid o page none =
    let size : Extent = turned (opposite o) (extent page) in
    let frame : Page = turned_page (opposite o) size.width size.height page in
    let back : extent page ≡ turned (opposite o) size = sym (turned_same (opposite o) (extent page)) in
    (λ i. page_sized o (sized (width-turned_page (opposite o) size.width size.height page i) (height-turned_page (opposite o) size.width size.height page i)) frame)
    ∙ (λ i. let e = turned_opposite o (extent page) i in turned_page (sym (opposite_twice o) i) e.width e.height frame)
    ∙ turned_back (opposite o) size.width size.height page none (ap (λ (e : Extent). e.width) back) (ap (λ (e : Extent). e.height) back)

-- marks that are painted on the frame are painted on its page
pub painted_frame : (o : Orientation) (frame : Page) (mark : Mark) →
    page_of_frame o (painted frame (in_frame mark)) ≡ (let page = page_of_frame o frame in painted page (on_page o page.width page.height mark))
painted_frame o frame mark = grind (arith, width-painted, height-painted, painted_turned, width-turned_page, height-turned_page)

-- the same, of a frame that lies as an orientation has it
pub painted_lying : (frame : Frame) (o : Orientation) (before : Page) (mark : Mark) → frame_page frame ≡ before → frame.orientation ≡ o →
    page_of_frame frame.orientation (painted frame.bitmap (in_frame mark)) ≡ painted before (on_page o before.width before.height mark)
painted_lying frame o before mark same lies = grind (arith, painted_frame)
