-- What is known of turned pages: their dots, that they turn back, and that painting and turning may be exchanged.
use Rattle.std.proofs.Common.{◌≡◌, ℕ, ◌<◌, false, sym, ap, subst, ◌∙◌, arith}
use Rattle.press_bits.specs.DotRule.{dot_after}
use Rattle.press_bits.specs.Mark.{Mark, effect_at, marked_dot, painted}
use Rattle.press_bits.specs.Page.{Page, black_at, blank, HasNoDotOutside}
use Rattle.press_bits.proofs.MarkLemmas.{painted_by, black_at-painted}
use Rattle.press_bits.proofs.PageLemmas.{page_where_itself, page_where_alike, width-page_where, height-page_where, black_at-page_where, page_where-HasNoDotOutside, black_at-blank, blank_is}
use Rattle.press_page.specs.PageSetup.{turned}
use Rattle.press_page.specs.Place.{placed_dot}
use Rattle.press_page.specs.declared.media.Orientation.{Orientation}
use Rattle.press_canvas.specs.Turned.{turned_page, opposite, in_frame, on_page}

-- ---- size and dots

pub width-turned_page : (o : Orientation) (w h : ℕ) (frame : Page) → (turned_page o w h frame).width ≡ w
unfolding turned_page
width-turned_page o w h frame = width-page_where w h _

pub height-turned_page : (o : Orientation) (w h : ℕ) (frame : Page) → (turned_page o w h frame).height ≡ h
unfolding turned_page
height-turned_page o w h frame = height-page_where w h _

pub turned_page-HasNoDotOutside : (o : Orientation) (w h : ℕ) (frame : Page) → HasNoDotOutside (turned_page o w h frame)
unfolding turned_page
turned_page-HasNoDotOutside o w h frame = page_where-HasNoDotOutside w h _

pub black_at-turned_page : (o : Orientation) (w h : ℕ) (frame : Page) (x y : ℕ) → x < w → y < h →
    black_at (turned_page o w h frame) x y ≡ (let dot = placed_dot o w h x y in black_at frame dot.0 dot.1)
unfolding turned_page
black_at-turned_page o w h frame x y wide high = black_at-page_where w h _ x y wide high

-- the frame's dot of a dot of the page lies on the frame
pub placed_inside : (o : Orientation) (w h x y : ℕ) → x < w → y < h →
    let dot = placed_dot o w h x y in let frame = turned o (record { width = w; height = h }) in (dot.0 < frame.width) × (dot.1 < frame.height)
placed_inside o w h x y wide high = grind arith

-- ---- there and back

-- and the frame's dot, of the page's dot, of a dot of the frame
pub placed_forth : (o : Orientation) (w h x y : ℕ) →
    let frame = turned o (record { width = w; height = h }) in
    let dot = placed_dot (opposite o) frame.width frame.height x y in
    x < frame.width → y < frame.height → (dot.0 < w) × (dot.1 < h) × (placed_dot o w h dot.0 dot.1 ≡ (x, y))
placed_forth o w h x y wide high = grind arith

-- the page of a frame, turned back, is the frame
pub turned_back : (o : Orientation) (w h : ℕ) (frame : Page) → HasNoDotOutside frame →
    frame.width ≡ (turned o (record { width = w; height = h })).width → frame.height ≡ (turned o (record { width = w; height = h })).height →
    turned_page (opposite o) frame.width frame.height (turned_page o w h frame) ≡ frame
unfolding turned_page
turned_back o w h frame none wide high =
    page_where_alike frame.width frame.height _ (black_at frame)
    (λ x y left above.
    let dot = placed_dot (opposite o) frame.width frame.height x y in
    let same : dot ≡ placed_dot (opposite o) (turned o (record { width = w; height = h })).width (turned o (record { width = w; height = h })).height x y =
    λ i. placed_dot (opposite o) (wide i) (high i) x y in
    let back = placed_forth o w h x y (subst (λ m. x < m) wide left) (subst (λ m. y < m) high above) in
    let at : (d : ℕ × ℕ) → ℕ × ℕ = λ d. placed_dot o w h d.0 d.1 in
    black_at-turned_page o w h frame dot.0 dot.1 (subst (λ (d : ℕ × ℕ). d.0 < w) (sym same) back.0) (subst (λ (d : ℕ × ℕ). d.1 < h) (sym same) back.1)
    ∙ ap (λ (d : ℕ × ℕ). black_at frame d.0 d.1) (ap at same ∙ back.2))
    ∙ page_where_itself frame none

-- the page of a white frame is white
pub turned_blank : (o : Orientation) (w h v u : ℕ) → turned_page o w h (blank v u) ≡ blank w h
unfolding turned_page
turned_blank o w h v u = page_where_alike w h _ (λ _ _. false) (λ x y _ _. black_at-blank v u _ _) ∙ sym (blank_is w h)

-- ---- painting

-- painting in the frame, and then turning, is painting the page
pub painted_turned : (o : Orientation) (w h : ℕ) (frame : Page) (mark : Mark) →
    frame.width ≡ (turned o (record { width = w; height = h })).width → frame.height ≡ (turned o (record { width = w; height = h })).height →
    turned_page o w h (painted frame (in_frame mark)) ≡ painted (turned_page o w h frame) (on_page o w h mark)
unfolding marked_dot effect_at
painted_turned o w h frame mark wide high =
    painted_by (turned_page o w h frame) (turned_page o w h (painted frame (in_frame mark))) (on_page o w h mark)
    (turned_page-HasNoDotOutside o w h _)
    (width-turned_page o w h _ ∙ sym (width-turned_page o w h frame))
    (height-turned_page o w h _ ∙ sym (height-turned_page o w h frame))
    (λ x y left above.
    let within : x < w = subst (λ m. x < m) (width-turned_page o w h frame) left in
    let level : y < h = subst (λ m. y < m) (height-turned_page o w h frame) above in
    let dot = placed_dot o w h x y in
    let inside = placed_inside o w h x y within level in
    black_at-turned_page o w h (painted frame (in_frame mark)) x y within level
    ∙ black_at-painted frame (in_frame mark) dot.0 dot.1 (subst (λ m. dot.0 < m) (sym wide) inside.0) (subst (λ m. dot.1 < m) (sym high) inside.1)
    ∙ ap (dot_after (effect_at (on_page o w h mark) x y)) (sym (black_at-turned_page o w h frame x y within level)))
