-- Strips of a frame: sixty-four of its columns as lines, and how they are lines of the page.
use Rattle.std.specs.Prelude.{ℕ, ◌+◌, ◌-◌, ◌*◌, ◌&&◌, not, Bool, true, false, nat_lt, if◌then◌else◌, List}
use Rattle.press_bits.specs.Mark.{row_dot}
use Rattle.press_bits.specs.Page.{Page, black_at, page_where}
use Rattle.press_page.specs.declared.media.Orientation.{Orientation}
use Rattle.press_page.specs.declared.media.Orientation.TheVariants.{Landscape, ReverseLandscape}
use Rattle.press_canvas.specs.Turned.{turned_dot, with_line}

-- the one of so many places that stands at a place, from the first on or from the last one back
abbrev pub place_at : (back : Bool) → (places place : ℕ) → ℕ
place_at false places place = place
place_at true places place = places - 1 - place

-- the dot of a column of a frame at a line; white past the last one
abbrev pub column_dot : Page → (column line : ℕ) → Bool
column_dot frame column line = nat_lt line frame.height && black_at frame column line

-- how many dots there is room for in a line of a strip
abbrev pub strip_dots : ℕ
strip_dots = 8 * 2112

-- dot x of line j of a strip
abbrev pub strip_dot : List ℕ → (line dot : ℕ) → Bool
strip_dot strip line dot = row_dot strip (strip_dots * line + dot)

-- the orientation in which the columns of the frame, read from the first line on or back, are lines of the page
abbrev pub across : (back : Bool) → Orientation
across false = Landscape
across true = ReverseLandscape

-- A page with a column of the frame as its line, where the frame has that column.
abbrev pub with_column : Page → (back : Bool) → (columns column : ℕ) → (dots : ℕ → Bool) → Page
with_column page back columns column dots =
    if nat_lt column columns then with_line page (place_at (not back) columns column) dots else page

-- A page of so many dots whose lines are those of the turned frame for its first columns, and the others white.
abbrev pub columns_before : (back : Bool) → (width height : ℕ) → Page → (columns : ℕ) → Page
columns_before back width height frame columns =
    page_where width height
    (λ x m. nat_lt (place_at (not back) height m) columns && turned_dot (across back) width height frame x m)
