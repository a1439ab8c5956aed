-- Worked pages, margins and places, computed on the definitions.
use Rattle.std.proofs.Common.{◌≡◌, ℕ, ℤ, pos, neg_ℤ, true, false, [], ◌∷◌, map, Option, Some, None, refl}
use Rattle.press_units.specs.Value.{tenthousandths_of}
use Rattle.press_units.specs.declared.position.Resolution.TheVariants.{Dpi600}
use Rattle.press_cursor.specs.Cursor.{home, position, moved_x, moved_y}
use Rattle.press_cursor.specs.CursorState.{CursorState}
use Rattle.std.specs.Prelude.{codes}
use Rattle.press_page.specs.Environment.{factory, reset_environment, logical_page_of, closes_page, asked_page_size, set_page_size}
use Rattle.press_page.specs.Environment.{with_page_size, asked_orientation, set_orientation, with_orientation, asked_duplex, set_duplex}
use Rattle.press_page.specs.Environment.{with_duplex_mode, set_unit_of_measure, set_vertical_motion, set_line_termination, set_copies}
use Rattle.press_page.specs.Environment.{asked_left, set_left_margin, set_top_margin, set_right_margin, set_text_length, skip_moves_top}
use Rattle.press_page.specs.Environment.{set_perforation_skip, clear_margins, set_line_spacing, set_horizontal_motion, passes_text}
use Rattle.press_page.specs.Margins.{default_text_length}
use Rattle.press_page.specs.PageSetup.{physical_page, frame, logical_page, page_size_of, duplex_mode, with_duplex}
use Rattle.press_page.specs.Place.{lies_on, to_physical, to_frame, cursor_dot, lines_below}
use Rattle.press_page.specs.declared.environment.PageEnv.{PageEnv}
use Rattle.press_page.specs.declared.media.Binding.TheVariants.{LongEdge, ShortEdge}
use Rattle.press_page.specs.declared.media.Orientation.TheVariants.{Portrait, Landscape, ReversePortrait, ReverseLandscape}
use Rattle.press_page.specs.declared.media.PageSize.TheVariants.{A4, A3, Ledger}
use Rattle.press_page.specs.declared.media.DuplexMode.TheVariants.{OneSided, TwoSidedLongEdge, TwoSidedShortEdge}
use Rattle.press_page.specs.declared.media.Orientation.{Orientation}
use Rattle.press_page.specs.declared.place.CursorDot.{CursorDot}
use Rattle.press_page.specs.declared.place.Dot.{Dot}
use Rattle.press_page.specs.declared.place.Extent.{Extent}
use Rattle.press_page.specs.declared.place.FrameLines.{FrameLines}
use Rattle.press_cursor.specs.declared.logical_page.LogicalPage.{LogicalPage}

-- after power on
abbrev letter : PageEnv
letter = reset_environment factory

-- ESC&l1O: landscape
abbrev landscape : PageEnv
landscape = set_orientation (tenthousandths_of (codes "1")) letter

-- the physical dot of the cursor's frame dot, so many columns and lines on
abbrev dot : (column line : ℕ) → Dot
dot column line = record { x = column; y = line }

-- a dot on which the cursor lies, maybe above the upper edge
abbrev cursor_at : (column : ℕ) (line : ℤ) → CursorDot
cursor_at column line = record { x = column; y = line }

abbrev placed : PageEnv → Dot → Option Dot
placed env place = to_physical env.page_setup.orientation (physical_page env.page_setup) place

-- ESC&l1O ESC*p0x0Y: the cursor's dot of the frame
abbrev at_origin : CursorState
at_origin =
    moved_y (pos 0) false (logical_page_of landscape)
    (moved_x (pos 0) false (logical_page_of landscape) (home 0 1200 (logical_page_of landscape)))

frame_of_origin : cursor_dot landscape.page_setup landscape.margins.top (position at_origin) ≡ cursor_at 60 (pos 150)
frame_of_origin = refl

-- A rectangle of three columns and two lines there: dots x 150 and 151, y 3237 to 3239.
first_of_rectangle : placed landscape (dot 60 150) ≡ Some (dot 150 3239)
first_of_rectangle = refl

last_of_rectangle : placed landscape (dot 62 151) ≡ Some (dot 151 3237)
last_of_rectangle = refl

back_to_frame : to_frame Landscape (physical_page landscape.page_setup) (dot 151 3237) ≡ Some (dot 62 151)
back_to_frame = refl

below_the_frame : placed landscape (dot 60 2550) ≡ None
below_the_frame = refl

-- default text lengths
letter-text : letter.margins.text_length ≡ 72000
letter-text = refl

landscape-text : landscape.margins.text_length ≡ 54000
landscape-text = refl

a4-text : (with_page_size A4 letter).margins.text_length ≡ 76800
a4-text = refl

a3-text : (with_page_size A3 letter).margins.text_length ≡ 111600
a3-text = refl

no_line : default_text_length 79200 3600 0 ≡ 72000
no_line = refl

no_room : default_text_length 79200 79200 1200 ≡ 0
no_room = refl

-- homes
letter-home : (home 0 1200 (logical_page_of letter)).y ≡ pos 900
letter-home = refl

eight_lines-home : (home 0 (set_line_spacing (tenthousandths_of (codes "8")) letter).settings.vertical_motion (logical_page_of letter)).y ≡ pos 675
eight_lines-home = refl

home_on_the_last_line : (home 0 1200 (logical_page_of (set_top_margin (tenthousandths_of (codes "66")) letter))).y ≡ pos 0
home_on_the_last_line = refl

-- the right margin is one product: half a column is left of the first
half_a_column : (set_right_margin (tenthousandths_of (codes "-0.5")) letter).margins.right ≡ 360
half_a_column = refl

-- Ledger in landscape, columns of one unit: the greatest value and one is cut to the page
widest : (set_right_margin (tenthousandths_of (codes "65535"))
    (set_horizontal_motion (tenthousandths_of (codes "1")) (with_orientation Landscape (with_page_size Ledger letter)))).margins.right
    ≡ 119520
widest = refl

-- the last line of the text, and one position below it
on_the_last_line : passes_text (pos 70800) 1200 letter ≡ false
on_the_last_line = refl

below_the_last_line : passes_text (pos 70801) 1200 letter ≡ true
below_the_last_line = refl

a4-number : page_size_of (pos 26) ≡ Some A4
a4-number = refl

no_size : page_size_of (neg_ℤ (pos 2)) ≡ None
no_size = refl

-- ESC&l26.9A is A4 and closes the page; ESC&l4A leaves all as it is
a4-closes : closes_page (asked_page_size (tenthousandths_of (codes "26.9"))) ≡ true
a4-closes = refl

no_size-stays : set_page_size (tenthousandths_of (codes "4")) landscape ≡ landscape
no_size-stays = refl

no_size-closes_nothing : closes_page (asked_page_size (tenthousandths_of (codes "4"))) ≡ false
no_size-closes_nothing = refl

-- one setting after another: ESC&u96D, ESC&l12C, ESC&k10.5H, ESC&l8D, ESC&k1G, ESC&l2.9X
abbrev one_line : PageEnv
one_line = set_vertical_motion (tenthousandths_of (codes "12")) (set_unit_of_measure (tenthousandths_of (codes "96")) letter)

one_line-vertical : one_line.settings.vertical_motion ≡ 1800
one_line-vertical = refl

abbrev settled : PageEnv
settled =
    set_copies (tenthousandths_of (codes "2.9")) (set_line_termination (tenthousandths_of (codes "1"))
    (set_line_spacing (tenthousandths_of (codes "8")) (set_horizontal_motion (tenthousandths_of (codes "10.5")) one_line)))

settled-measure : settled.settings.unit_of_measure ≡ 96
settled-measure = refl

settled-horizontal : settled.settings.horizontal_motion ≡ 630
settled-horizontal = refl

settled-vertical : settled.settings.vertical_motion ≡ 900
settled-vertical = refl

settled-termination : settled.settings.line_termination ≡ record { feed_after_return = true; return_before_feed = false }
settled-termination = refl

settled-copies : settled.settings.copies ≡ 2
settled-copies = refl

-- and margins by these motion indices: ESC&a1L, ESC&a2M, ESC&l3.5E, ESC&l10F
left_margin : asked_left (tenthousandths_of (codes "1")) settled ≡ Some 630
left_margin = refl

abbrev narrow : PageEnv
narrow =
    set_text_length (tenthousandths_of (codes "10")) (set_top_margin (tenthousandths_of (codes "3.5"))
    (set_right_margin (tenthousandths_of (codes "2")) (set_left_margin (tenthousandths_of (codes "1")) settled)))

narrow-margins : narrow.margins ≡ record { left = 630; right = 1890; top = 3150; text_length = 9000 }
narrow-margins = refl

narrow-page : (logical_page_of narrow).top_margin ≡ 3150
narrow-page = refl

-- ESC&l0L sets the top margin back, and ESC 9 the other margins
skip_off : (set_perforation_skip (tenthousandths_of (codes "0")) narrow).settings.perforation_skip ≡ false
skip_off = refl

skip_off-moves : skip_moves_top (tenthousandths_of (codes "0")) narrow ≡ true
skip_off-moves = refl

cleared-left : (clear_margins narrow).margins.left ≡ 0
cleared-left = refl

cleared-right : (clear_margins narrow).margins.right ≡ 57600
cleared-right = refl

-- sides: simplex leaves the binding
short_edge : duplex_mode (set_duplex (tenthousandths_of (codes "2")) letter).page_setup ≡ TwoSidedShortEdge
short_edge = refl

long_edge : (with_duplex TwoSidedLongEdge (set_duplex (tenthousandths_of (codes "2")) letter).page_setup).binding ≡ LongEdge
long_edge = refl

binding_stays : (with_duplex_mode OneSided (set_duplex (tenthousandths_of (codes "2")) letter)).page_setup.binding ≡ ShortEdge
binding_stays = refl

duplex-closes : closes_page (asked_duplex (tenthousandths_of (codes "2"))) ≡ true
duplex-closes = refl

orientation-closes : closes_page (asked_orientation (tenthousandths_of (codes "1"))) ≡ true
orientation-closes = refl

-- line feeds at the end of the text, with perforation skip and without
half_a_line_below : passes_text (pos 71401) 600 letter ≡ true
half_a_line_below = refl

below_all_text : passes_text (pos 75600) 0 letter ≡ true
below_all_text = refl

abbrev without_skip : PageEnv
without_skip = set_perforation_skip (tenthousandths_of (codes "0")) letter

last_line_of_the_page : passes_text (pos 74400) 1200 without_skip ≡ false
last_line_of_the_page = refl

below_the_page : passes_text (pos 74401) 1200 without_skip ≡ true
below_the_page = refl

-- the cursor's dot of the frame: a dot has 24 positions
abbrev lies : (x : ℕ) (y : ℤ) → CursorDot
lies x y = cursor_dot letter.page_setup letter.margins.top (record { x = x; y = y })

first_dot : lies 0 (pos 0) ≡ cursor_at 75 (pos 150)
first_dot = refl

still_the_first_dot : lies 23 (pos 23) ≡ cursor_at 75 (pos 150)
still_the_first_dot = refl

next_dot : lies 24 (pos 24) ≡ cursor_at 76 (pos 151)
next_dot = refl

last_dot : lies 57600 (pos 75600) ≡ cursor_at 2475 (pos 3300)
last_dot = refl

above_the_margin : lies 0 (neg_ℤ (pos 1)) ≡ cursor_at 75 (pos 149)
above_the_margin = refl

upper_edge : lies 0 (neg_ℤ (pos 3600)) ≡ cursor_at 75 (pos 0)
upper_edge = refl

-- above the edge the line is the floor, too: the first one there has the 24 positions nearest to the edge
above_the_edge : map (λ n. lies 0 (neg_ℤ (pos n))) (3601 ∷ 3624 ∷ 3625 ∷ 3648 ∷ 3649 ∷ [])
    ≡ map (λ n. cursor_at 75 (neg_ℤ (pos n))) (1 ∷ 1 ∷ 2 ∷ 2 ∷ 3 ∷ [])
above_the_edge = refl

-- a mark of four lines that begins below the edge, on it, two lines above it, four and five
abbrev lines : (first count : ℕ) → FrameLines
lines first count = record { first = first; count = count }

four_lines : map (λ line. lines_below line 4) (pos 7 ∷ pos 0 ∷ neg_ℤ (pos 2) ∷ neg_ℤ (pos 4) ∷ neg_ℤ (pos 5) ∷ [])
    ≡ lines 7 4 ∷ lines 0 4 ∷ lines 0 2 ∷ lines 0 0 ∷ lines 0 0 ∷ []
four_lines = refl

-- after `SET RESOLUTION=600`: the logical page and the margins are as before, in twice as many dots
abbrev fine : PageEnv
fine = reset_environment (record factory { resolution = Dpi600 })

same_margins : fine.margins ≡ letter.margins
same_margins = refl

same_logical_page : logical_page_of fine ≡ logical_page_of letter
same_logical_page = refl

fine_page : physical_page fine.page_setup ≡ record { width = 5100; height = 6600 }
fine_page = refl

-- a dot has 12 positions there
abbrev lies_fine : (x : ℕ) (y : ℤ) → CursorDot
lies_fine x y = cursor_dot fine.page_setup fine.margins.top (record { x = x; y = y })

fine_dots : map (λ n. lies_fine n (pos n)) (0 ∷ 11 ∷ 12 ∷ 24 ∷ 57600 ∷ [])
    ≡ cursor_at 150 (pos 300) ∷ cursor_at 150 (pos 300) ∷ cursor_at 151 (pos 301) ∷ cursor_at 152 (pos 302) ∷ cursor_at 4950 (pos 5100) ∷ []
fine_dots = refl

fine_home : lies_fine 0 (pos 900) ≡ cursor_at 150 (pos 375)
fine_home = refl

above_the_fine_margin : map (lies_fine 0) (neg_ℤ (pos 1) ∷ neg_ℤ (pos 3600) ∷ neg_ℤ (pos 3601) ∷ neg_ℤ (pos 3612) ∷ neg_ℤ (pos 3613) ∷ [])
    ≡ map (cursor_at 150) (pos 299 ∷ pos 0 ∷ neg_ℤ (pos 1) ∷ neg_ℤ (pos 1) ∷ neg_ℤ (pos 2) ∷ [])
above_the_fine_margin = refl

-- no command changes it: ESC&l1O, ESC&l6A, ESC&l2S
still_fine : map (λ env. env.page_setup.resolution)
    (set_orientation (tenthousandths_of (codes "1")) fine ∷ set_page_size (tenthousandths_of (codes "6")) fine
    ∷ set_duplex (tenthousandths_of (codes "2")) fine ∷ [])
    ≡ Dpi600 ∷ Dpi600 ∷ Dpi600 ∷ []
still_fine = refl

-- Ledger has 3300 x 5100 dots, and its logical page lies 75 and 60 of them from the edges in portrait and landscape
abbrev ledger : Orientation → PageEnv
ledger orientation = with_orientation orientation (with_page_size Ledger letter)

abbrev upright : Extent
upright = record { width = 3300; height = 5100 }

abbrev lying : Extent
lying = record { width = 5100; height = 3300 }

ledger-pages : map (λ o. physical_page (ledger o).page_setup) (Portrait ∷ Landscape ∷ ReversePortrait ∷ ReverseLandscape ∷ [])
    ≡ upright ∷ upright ∷ upright ∷ upright ∷ []
ledger-pages = refl

ledger-frames : map (λ o. frame (ledger o).page_setup) (Portrait ∷ Landscape ∷ ReversePortrait ∷ ReverseLandscape ∷ [])
    ≡ upright ∷ lying ∷ upright ∷ lying ∷ []
ledger-frames = refl

abbrev within : (width length : ℕ) → LogicalPage
within width length = record { width = width; length = length; top_margin = 720 }

ledger-logical_pages : map (λ o. logical_page (ledger o).page_setup 720) (Portrait ∷ Landscape ∷ ReversePortrait ∷ ReverseLandscape ∷ [])
    ≡ within 75600 122400 ∷ within 119520 79200 ∷ within 75600 122400 ∷ within 119520 79200 ∷ []
ledger-logical_pages = refl

ledger-corners : map (lies_on lying) (dot 5099 3299 ∷ dot 5100 0 ∷ dot 0 3300 ∷ []) ≡ true ∷ false ∷ false ∷ []
ledger-corners = refl
