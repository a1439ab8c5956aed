-- Columns of a frame that are written as lines of the page.
use Rattle.std.proofs.Common.{◌≡◌, ℕ, ◌+◌, ◌<◌, ◌≤◌, Bool, false, ◌&&◌, not, ap, ◌∙◌, inl, inr, arith}
use Rattle.std.specs.Prelude.{nat_eq, nat_lt, if◌then◌else◌}
use Rattle.std.proofs.lemmas.Bool.{cases_lt}
use Rattle.std.proofs.lemmas.Bool.Decides.{nat_tests}
use Rattle.press_bits.specs.Page.{Page, black_at, page_where, blank}
use Rattle.press_bits.proofs.PageLemmas.{page_where_alike, width-page_where, height-page_where, black_at-page_where, blank_is}
use Rattle.press_canvas.specs.Turned.{turned_dot, turned_page, page_of_frame, with_line}
use Rattle.press_canvas.specs.Strip.{across, column_dot, columns_before, place_at, with_column}

pub place_within : (back : Bool) (h m : ℕ) → m < h → place_at back h m < h
place_within back h m within = grind arith

pub columns_more : (back : Bool) (w h : ℕ) (frame page : Page) (a : ℕ) (dots : ℕ → Bool) → w ≡ frame.height → page ≡ columns_before back w h frame a →
    ((x : ℕ) → x < w → a < h → dots x ≡ column_dot frame a (place_at back w x)) → with_column page back h a dots ≡ columns_before back w h frame (a + 1)
columns_more back w h frame page a dots high before right =
    elim (cases_lt a h) [
      | inl within ↦
          grind (arith, nat_tests, within)
          ∙ ap (λ p. with_line p y dots) before
          ∙ (λ i. page_where (width-page_where w h rule i) (height-page_where w h rule i) (put (page_where w h rule)))
          ∙ page_where_alike w h (put (page_where w h rule)) next (λ x m left above. grind (arith, nat_tests, black_at-page_where w h rule x m left above, right x left within))
      | inr past ↦
          grind (arith, nat_tests, past) ∙ before ∙ page_where_alike w h rule next (λ x m _ above. grind (arith, nat_tests))
    ]
  where
    y : ℕ
    y = place_at (not back) h a

    rule : ℕ → ℕ → Bool
    rule x m = nat_lt (place_at (not back) h m) a && turned_dot (across back) w h frame x m

    next : ℕ → ℕ → Bool
    next x m = nat_lt (place_at (not back) h m) (a + 1) && turned_dot (across back) w h frame x m

    put : Page → ℕ → ℕ → Bool
    put p x m = if nat_eq m y then dots x else black_at p x m

pub columns_none : (back : Bool) (w h : ℕ) (frame : Page) → blank w h ≡ columns_before back w h frame 0
columns_none back w h frame = blank_is w h ∙ page_where_alike w h (λ _ _. false) _ (λ x m _ _. grind (arith, nat_tests))

pub columns_all : (back : Bool) (w h : ℕ) (frame : Page) (n : ℕ) → h ≤ n → columns_before back w h frame n ≡ turned_page (across back) w h frame
unfolding turned_page
columns_all back w h frame n all =
    page_where_alike w h _ (turned_dot (across back) w h frame)
    (λ x m _ above. grind (arith, nat_tests))

pub column_written : (page : Page) (back : Bool) (columns column y : ℕ) (bits dots : ℕ → Bool) → column < columns → y ≡ place_at (not back) columns column →
    ((x : ℕ) → x < page.width → bits x ≡ dots x) → with_line page y bits ≡ with_column page back columns column dots
column_written page back columns column y bits dots within is same = grind (arith, page_where_alike)

pub across_page : (back : Bool) (frame : Page) → turned_page (across back) frame.height frame.width frame ≡ page_of_frame (across back) frame
across_page back frame = grind arith

-- the line that is written next is white so far
pub next_column_white : (back : Bool) (w h : ℕ) (frame page : Page) (a x : ℕ) → page ≡ columns_before back w h frame a → x < w → a < h →
    black_at page x (place_at (not back) h a) ≡ false
next_column_white back w h frame page a x before left within = grind (arith, black_at-page_where)
