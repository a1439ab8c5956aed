-- Pages that are turned: the physical page of a frame (PCL 5 Printer Language Technical Reference Manual, the PCL coordinate
-- system and Logical Page Orientation command).
use Rattle.std.specs.Prelude.{ℕ, Bool, true, false, ◌&&◌, nat_eq, nat_lt, if◌then◌else◌}
use Rattle.press_bits.specs.Mark.{Mark}
use Rattle.press_bits.specs.Page.{Page, black_at, page_where}
use Rattle.press_page.specs.PageSetup.{turned}
use Rattle.press_page.specs.Place.{placed_dot}
use Rattle.press_page.specs.declared.media.Orientation.{Orientation}
use Rattle.press_page.specs.declared.media.Orientation.TheVariants.{Portrait, Landscape, ReversePortrait, ReverseLandscape}
use Rattle.press_page.specs.declared.place.Extent.{Extent}
use Rattle.press_canvas.specs.declared.frame.Frame.{Frame}

-- how many dots a page has
abbrev pub extent : Page → Extent
extent page = record { width = page.width; height = page.height }

-- the frame's dot that lies at a column and a line of a physical page of so many dots
abbrev pub turned_dot : Orientation → (width height : ℕ) → Page → (column line : ℕ) → Bool
turned_dot orientation width height frame column line =
    let dot = placed_dot orientation width height column line in black_at frame dot.0 dot.1

-- The physical page of so many dots on which a frame lies as the orientation turns it: each of its dots is the frame's dot that
-- lies there.
unfoldable pub turned_page : Orientation → (width height : ℕ) → Page → Page
turned_page orientation width height frame = page_where width height (turned_dot orientation width height frame)

-- The physical page of a frame: the frame has the dots of the page that is turned.
abbrev pub page_of_frame : Orientation → Page → Page
page_of_frame orientation frame =
    let page = turned orientation (extent frame) in turned_page orientation page.width page.height frame

-- the orientation that turns a page back
abbrev pub opposite : Orientation → Orientation
opposite Portrait = Portrait
opposite Landscape = ReverseLandscape
opposite ReversePortrait = ReversePortrait
opposite ReverseLandscape = Landscape

-- the orientation in which the lines of the frame, read from the first one on or back, are lines of the page
abbrev pub upright : (back : Bool) → Orientation
upright false = Portrait
upright true = ReversePortrait

-- A mark that is seen in the frame: its source and pattern dots are those of the page's own dots.
abbrev pub in_frame : Mark → Mark
in_frame mark = record mark { frame_dot = λ column line. (column, line) }

-- A mark of the frame on the physical page that lies there.
abbrev pub on_page : Orientation → (width height : ℕ) → Mark → Mark
on_page orientation width height mark = record mark { frame_dot = placed_dot orientation width height }

-- A page with another line: its dots by their columns.
abbrev pub with_line : Page → (line : ℕ) → (dots : ℕ → Bool) → Page
with_line page line dots =
    page_where page.width page.height (λ x n. if nat_eq n line then dots x else black_at page x n)

-- A page of so many dots whose lines before one are those of the turned frame, and the others white.
abbrev pub turned_before : Orientation → (width height : ℕ) → Page → (line : ℕ) → Page
turned_before orientation width height frame line =
    page_where width height (λ x n. nat_lt n line && turned_dot orientation width height frame x n)

-- the page of a frame that lies so
abbrev pub frame_page : Frame → Page
frame_page frame = page_of_frame frame.orientation frame.bitmap
