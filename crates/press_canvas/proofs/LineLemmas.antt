-- Pages that are written line by line.
use Rattle.std.proofs.Common.{◌≡◌, ℕ, ◌+◌, ◌<◌, ◌≤◌, Bool, true, false, ◌&&◌, List, take, ◌*◌, refl, ap, ◌∙◌, inl, arith}
use Rattle.std.specs.Prelude.{nat_eq, nat_lt, pos, if◌then◌else◌}
use Rattle.std.proofs.lemmas.Bool.Decides.{nat_tests}
use Rattle.press_bits.specs.Mark.{Row, marked_dot, painted, row_dot, row_mark, eight_black}
use Rattle.press_bits.specs.Page.{Page, HasNoDotOutside, black_at, page_where, blank}
use Rattle.press_bits.specs.declared.mode.Mode.{Mode}
use Rattle.press_bits.proofs.LineLemmas.{row_dot-slice}
use Rattle.press_bits.proofs.MarkLemmas.{row_lands, repeated-eight_black}
use Rattle.press_bits.proofs.PageLemmas.{page_where_alike, page_where_itself, width-page_where, height-page_where, black_at-page_where, blank_is}
use Rattle.press_page.specs.declared.media.Orientation.{Orientation}
use Rattle.press_canvas.specs.Strip.{place_at}
use Rattle.press_canvas.specs.Turned.{turned_dot, turned_page, turned_before, page_of_frame, upright, with_line}

-- ---- a line that is written

abbrev pub opaque : Mode
opaque = record { source_opaque = true; pattern_opaque = true }

-- an opaque row as wide as the page is another line
pub painted_line : (page : Page) (y : ℕ) (source pattern : Row) → source.dots ≡ page.width → pattern ≡ eight_black →
    painted page (row_mark (pos 0) (pos y) source pattern opaque) ≡ with_line page y (row_dot source.bits)
unfolding painted marked_dot
painted_line page y source pattern wide solid =
    grind (
      arith,
      solid,
      page_where_alike page.width page.height (marked_dot page (row_mark (pos 0) (pos y) source eight_black opaque)) (λ x n. if nat_eq n y then row_dot source.bits x else black_at page x n)
          (λ x n left above. grind (
            arith,
            nat_tests,
            repeated-eight_black,
            row_lands (pos 0) (pos y) source eight_black opaque 0 0 page.width y page.width x n refl (inl refl) refl (omega (arith, wide)) left,
          )),
    )

-- ---- the dots that are written

pub row_dot-prefix : (bits : List ℕ) (n x : ℕ) → x < 8 * n → row_dot (take n bits) x ≡ row_dot bits x
row_dot-prefix bits n x low = grind (arith, row_dot-slice bits 0 n x low)

pub with_line_alike : (page : Page) (y : ℕ) (a b : ℕ → Bool) → ((x : ℕ) → x < page.width → a x ≡ b x) → with_line page y a ≡ with_line page y b
with_line_alike page y a b same = grind (arith, page_where_alike)

-- ---- the lines of a turned frame

pub lines_more : (o : Orientation) (w h : ℕ) (frame page : Page) (n : ℕ) (dots : ℕ → Bool) → page ≡ turned_before o w h frame n →
    ((x : ℕ) → x < w → dots x ≡ turned_dot o w h frame x n) → with_line page n dots ≡ turned_before o w h frame (n + 1)
lines_more o w h frame page n dots before right =
    let rule : ℕ → ℕ → Bool = λ x m. nat_lt m n && turned_dot o w h frame x m in
    let put : Page → ℕ → ℕ → Bool = λ p x m. if nat_eq m n then dots x else black_at p x m in
    ap (λ p. with_line p n dots) before
    ∙ (λ i. page_where (width-page_where w h rule i) (height-page_where w h rule i) (put (page_where w h rule)))
    ∙ page_where_alike w h (put (page_where w h rule)) (λ x m. nat_lt m (n + 1) && turned_dot o w h frame x m)
    (λ x m left above. grind (arith, nat_tests, black_at-page_where w h rule x m left above, right x left))

pub lines_none : (o : Orientation) (w h : ℕ) (frame : Page) → blank w h ≡ turned_before o w h frame 0
lines_none o w h frame = blank_is w h ∙ page_where_alike w h (λ _ _. false) _ (λ x m _ _. grind (arith, nat_tests))

pub lines_all : (o : Orientation) (w h : ℕ) (frame : Page) (n : ℕ) → h ≤ n → turned_before o w h frame n ≡ turned_page o w h frame
unfolding turned_page
lines_all o w h frame n all = page_where_alike w h _ (turned_dot o w h frame) (λ x m _ above. grind (arith, nat_tests))

-- ---- lines that are white, and upright ones

-- the line that is written next is white so far
pub next_white : (o : Orientation) (w h : ℕ) (frame page : Page) (n x : ℕ) → page ≡ turned_before o w h frame n → x < w → n < h → black_at page x n ≡ false
next_white o w h frame page n x before left above = grind (arith, black_at-page_where)

-- a white line takes the place of a white line
pub white_line : (page : Page) (y : ℕ) (bits : ℕ → Bool) → HasNoDotOutside page
    → ((x : ℕ) → x < page.width → y < page.height → black_at page x y ≡ false) → ((x : ℕ) → x < page.width → bits x ≡ false) →
    page ≡ with_line page y bits
white_line page y bits none clear white =
    grind (arith, page_where_itself page none, page_where_alike page.width page.height (black_at page) (λ x n. if nat_eq n y then bits x else black_at page x n) (λ x n left above. grind arith))

-- the dots of the lines of an upright frame, from its first dot on or from its last one back
pub upright_dot : (back : Bool) (w h : ℕ) (frame : Page) (x y : ℕ) → black_at frame (place_at back w x) (place_at back h y) ≡ turned_dot (upright back) w h frame x y
upright_dot back w h frame x y = grind arith

pub upright_page : (back : Bool) (frame : Page) → turned_page (upright back) frame.width frame.height frame ≡ page_of_frame (upright back) frame
upright_page back frame = grind arith
