-- Worked streams with lines of the job language, computed on the definitions: what goes out from power on.
use Prim.Native.Char.{code}
use Prim.Native.String.{String}
use Rattle.std.proofs.Common.{◌≡◌, ℕ, ◌-◌, ◌*◌, List, [], ◌∷◌, ◌++◌, pos, replicate, Some, None, refl}
use Rattle.std.specs.Fmt.{digits}
use Rattle.std.specs.Prelude.{codes}
use Rattle.press_bits.specs.Page.{Page, blank}
use Rattle.press_bits.specs.DotRule.{both_transparent}
use Rattle.press_bits.specs.Mark.{painted}
use Rattle.press_cmd.specs.Token.{Token, Escape, Grouped, Ungrouped, Control, PjlLine, Uel}
use Rattle.press_fill.specs.Fill.{fill_mark}
use Rattle.press_page.specs.declared.media.Orientation.TheVariants.{Portrait}
use Rattle.press_page.specs.declared.place.CursorDot.{CursorDot}
use Rattle.press_pattern.specs.Brush.{black_brush}
use Rattle.press_pattern.specs.Solid.{solid_black}
use Rattle.press_raster.specs.Mark.{raster_mark}
use Rattle.press_rows.specs.Blocks.{items}
use Rattle.press_rows.specs.DeltaRow.{deltas, replacements, laid_over}
use Rattle.press_rows.specs.Row.{raster_row}
use Rattle.press_sink.specs.Sending.{Output, Deliver, Reply}
use Rattle.press_engine.specs.Machine.{power_on}
use Rattle.press_engine.specs.Fold.{fold, whole_at, run_all}

-- a line, with its line feed
abbrev line : String → Token
line text = PjlLine (codes text ++ 10 ∷ [])

-- ESC&l#X, copies; and a form feed
abbrev copies : String → Token
copies field = Grouped (code "&") (code "l") (codes field) (code "X") []

abbrev form_feed : Token
form_feed = Control 12

-- what goes out of commands and one more universal exit, from power on
abbrev told : List Token → List Output
told commands = (run_all (commands ++ (Uel ∷ [])) power_on).outputs

-- a reply of a value
abbrev reply : (command value : String) → Output
reply command value = Reply (codes command ++ (13 ∷ 10 ∷ []) ++ codes value ++ (13 ∷ 10 ∷ 12 ∷ []))

abbrev front : Page → Output
front page = Deliver (record { front = page; back = None })

abbrev letter : Page
letter = blank 2550 3300

-- the current and the default value of a variable
copies_are_asked :
    told (Uel ∷ line "@PJL SET COPIES=3\r" ∷ line "@PJL INQUIRE COPIES\r" ∷ line "@PJL DINQUIRE COPIES\r" ∷ [])
    ≡ reply "@PJL INQUIRE COPIES" "3" ∷ reply "@PJL DINQUIRE COPIES" "1" ∷ []
unfolding fold whole_at digits
copies_are_asked = refl

-- a reply after each sheet
a_reply_after_a_sheet :
    told (Uel ∷ line "@PJL USTATUS PAGE=ON" ∷ line "@PJL ENTER LANGUAGE=PCL" ∷ form_feed ∷ [])
    ≡ front letter ∷ reply "@PJL USTATUS PAGE" "1" ∷ []
unfolding fold whole_at digits
a_reply_after_a_sheet = refl

a_reply_after_each_copy :
    told (line "@PJL USTATUS PAGE=ON" ∷ copies "2" ∷ form_feed ∷ line "@PJL INFO PAGECOUNT" ∷ [])
    ≡ front letter ∷ reply "@PJL USTATUS PAGE" "1" ∷ front letter ∷ reply "@PJL USTATUS PAGE" "2"
    ∷ reply "@PJL INFO PAGECOUNT" "2" ∷ []
unfolding fold whole_at digits
a_reply_after_each_copy = refl

-- the page that a job closes counts in the job before, and then the count begins anew
abbrev small_box : List Token
small_box =
    Grouped (code "*") (code "c") (codes "3") (code "A") [] ∷ Grouped (code "*") (code "c") (codes "2") (code "B") []
    ∷ Grouped (code "*") (code "p") (codes "0") (code "Y") [] ∷ Grouped (code "*") (code "c") (codes "0") (code "P") [] ∷ []

abbrev boxed : Page
boxed =
    painted letter
    (fill_mark Portrait letter (record { x = 75; y = 150; width = 3; height = 2 }) solid_black both_transparent)

a_job_closes_the_page :
    told (line "@PJL USTATUS PAGE=ON" ∷ form_feed ∷ small_box ++ (line "@PJL JOB" ∷ form_feed ∷ []))
    ≡ front letter ∷ reply "@PJL USTATUS PAGE" "1" ∷ front boxed ∷ reply "@PJL USTATUS PAGE" "2"
    ∷ front letter ∷ reply "@PJL USTATUS PAGE" "1" ∷ []
unfolding fold whole_at digits
a_job_closes_the_page = refl

-- a value that is set holds from the next page on: the page that the line closes goes out as it was set before
a_value_holds_behind_the_page :
    told (line "@PJL USTATUS PAGE=ON" ∷ small_box ++ (line "@PJL SET COPIES=2" ∷ form_feed ∷ []))
    ≡ front boxed ∷ reply "@PJL USTATUS PAGE" "1"
    ∷ front letter ∷ reply "@PJL USTATUS PAGE" "2" ∷ front letter ∷ reply "@PJL USTATUS PAGE" "3" ∷ []
unfolding fold whole_at digits
a_value_holds_behind_the_page = refl

-- so does a front that waits, which goes out alone with its reply
a_front_goes_out_alone :
    told (line "@PJL SET DUPLEX=ON" ∷ line "@PJL USTATUS PAGE=ON" ∷ form_feed ∷ line "@PJL SET PAPER=A4" ∷ form_feed ∷ [])
    ≡ front letter ∷ reply "@PJL USTATUS PAGE" "1" ∷ front (blank 2480 3507) ∷ reply "@PJL USTATUS PAGE" "2" ∷ []
unfolding fold whole_at digits
a_front_goes_out_alone = refl

-- so does a page with a mark, and a front that waits, of another resolution
abbrev fine_letter : Page
fine_letter = blank 5100 6600

another_resolution :
    told (small_box ++ (line "@PJL SET RESOLUTION=600" ∷ form_feed ∷ line "@PJL SET RESOLUTION=300" ∷ form_feed ∷ []))
    ≡ front boxed ∷ front fine_letter ∷ front letter ∷ []
unfolding fold whole_at
another_resolution = refl

a_front_of_another_resolution :
    told (line "@PJL SET DUPLEX=ON" ∷ form_feed ∷ line "@PJL SET RESOLUTION=600" ∷ form_feed ∷ form_feed ∷ [])
    ≡ front letter ∷ Deliver (record { front = fine_letter; back = Some fine_letter }) ∷ []
unfolding fold whole_at
a_front_of_another_resolution = refl

-- the resolution outlives a reset and the universal exit, until a line changes it
abbrev reset : Token
reset = Escape (code "E")

a_resolution_stays :
    told (line "@PJL SET RESOLUTION=600" ∷ reset ∷ Uel ∷ form_feed ∷ line "@PJL RESET" ∷ form_feed ∷ line "@PJL DEFAULT RESOLUTION=600" ∷ form_feed
    ∷ line "@PJL EOJ" ∷ form_feed ∷ line "@PJL INITIALIZE" ∷ form_feed ∷ [])
    ≡ front fine_letter ∷ front letter ∷ front letter ∷ front fine_letter ∷ front letter ∷ []
unfolding fold whole_at
a_resolution_stays = refl

-- a PCL unit of 1/300 inch has two dots there: the box is at (150, 300), and has six columns and four lines
abbrev fine_box : Page
fine_box =
    painted fine_letter
    (fill_mark Portrait fine_letter (record { x = 150; y = 300; width = 6; height = 4 }) solid_black both_transparent)

a_resolution_is_asked :
    told (line "@PJL SET RESOLUTION=600" ∷ reset ∷ small_box ++ (reset ∷ line "@PJL INQUIRE RESOLUTION" ∷ line "@PJL DINQUIRE RESOLUTION" ∷ []))
    ≡ front fine_box ∷ reply "@PJL INQUIRE RESOLUTION" "600" ∷ reply "@PJL DINQUIRE RESOLUTION" "300" ∷ []
unfolding fold whole_at
a_resolution_is_asked = refl

-- ESC*t200R, ESC*r1A, ESC*b1W of a dot: three by three dots at (150, 375); at 300 dots per inch the resolution stays 75, and they
-- are four by four at (75, 187)
abbrev row_of_a_dot : List Token
row_of_a_dot =
    Grouped (code "*") (code "t") (codes "200") (code "R") [] ∷ Grouped (code "*") (code "r") (codes "1") (code "A") []
    ∷ Grouped (code "*") (code "b") (codes "1") (code "W") (0x80 ∷ []) ∷ form_feed ∷ []

abbrev with_row : Page → (corner : CursorDot) (size bytes : ℕ) → Page
with_row page corner size bytes =
    painted page
    (raster_mark Portrait page corner size (record { bits = 0x80 ∷ replicate (bytes - 1) 0; dots = 8 * bytes }) (black_brush both_transparent))

a_row_at_200 : told (line "@PJL SET RESOLUTION=600" ∷ row_of_a_dot) ≡ front (with_row fine_letter (record { x = 150; y = pos 375 }) 3 200) ∷ []
unfolding fold whole_at raster_row
a_row_at_200 = refl

no_row_at_200 : told row_of_a_dot ≡ front (with_row letter (record { x = 75; y = pos 187 }) 4 75) ∷ []
unfolding fold whole_at raster_row
no_row_at_200 = refl

-- Adaptive compression, a command of five rows at 300 dots per inch: a row of eight dots, the same twice more, an empty one, and
-- by a delta row of that the first and the last dot of a byte.
abbrev five_rows : Token
five_rows =
    Grouped (code "*") (code "b") (codes "15") (code "W")
    (0x00 ∷ 0x00 ∷ 0x01 ∷ 0xFF ∷ 0x05 ∷ 0x00 ∷ 0x02 ∷ 0x04 ∷ 0x00 ∷ 0x01 ∷ 0x03 ∷ 0x00 ∷ 0x02 ∷ 0x00 ∷ 0x81 ∷ [])

abbrev row_at : (line byte : ℕ) → Page → Page
row_at line byte page =
    painted page
    (raster_mark Portrait page (record { x = 75; y = pos line }) 1 (record { bits = byte ∷ replicate 299 0; dots = 2400 }) (black_brush both_transparent))

rows_of_blocks :
    told (Grouped (code "*") (code "t") (codes "300") (code "R") [] ∷ Grouped (code "*") (code "r") (codes "0") (code "A") []
    ∷ Grouped (code "*") (code "b") (codes "5") (code "M") [] ∷ five_rows ∷ form_feed ∷ [])
    ≡ front (row_at 191 0x81 (row_at 190 0x00 (row_at 189 0xFF (row_at 188 0xFF (row_at 187 0xFF letter))))) ∷ []
unfolding fold whole_at items raster_row deltas replacements laid_over
rows_of_blocks = refl

-- no data is no row there: the page has no mark, and ESC E prints none; by method 0 it is a row
no_rows_of_no_data :
    told (Grouped (code "*") (code "b") (codes "5") (code "M") [] ∷ Grouped (code "*") (code "b") (codes "0") (code "W") [] ∷ reset ∷ []) ≡ []
unfolding fold whole_at items
no_rows_of_no_data = refl

-- a definition that is open is dropped where a value is set, and goes on at a query
abbrev define : Token
define = Grouped (code "&") (code "f") (codes "0") (code "X") []

a_value_drops_the_definition : told (define ∷ line "@PJL SET COPIES=1" ∷ form_feed ∷ []) ≡ front letter ∷ []
unfolding fold whole_at
a_value_drops_the_definition = refl

a_query_leaves_the_definition :
    told (define ∷ line "@PJL INQUIRE COPIES" ∷ form_feed ∷ []) ≡ reply "@PJL INQUIRE COPIES" "1" ∷ []
unfolding fold whole_at digits
a_query_leaves_the_definition = refl

-- the page after a change of a value has it; the page of a default that changed has not
another_page_size : told (line "@PJL SET PAPER=A4" ∷ form_feed ∷ []) ≡ front (blank 2480 3507) ∷ []
unfolding fold whole_at
another_page_size = refl

another_default : told (line "@PJL DEFAULT PAPER=A4" ∷ form_feed ∷ line "@PJL RESET" ∷ form_feed ∷ []) ≡ front letter ∷ front (blank 2480 3507) ∷ []
unfolding fold whole_at
another_default = refl

-- HP-GL/2 ends where a value is set, and goes on at a query
abbrev enter_hp_gl : Token
enter_hp_gl = Ungrouped (code "%") (codes "0") (code "B") []

a_value_ends_hp_gl :
    told (enter_hp_gl ∷ form_feed ∷ line "@PJL ECHO a b" ∷ form_feed ∷ line "@PJL SET COPIES=1" ∷ form_feed ∷ [])
    ≡ Reply (codes "@PJL ECHO a b" ++ (13 ∷ 10 ∷ 12 ∷ [])) ∷ front letter ∷ []
unfolding fold whole_at
a_value_ends_hp_gl = refl
