-- Worked streams, computed on the definitions: what their commands, and one more universal exit, leave from power on.
use Prim.Native.Char.{Char, code}
use Prim.Native.String.{String}
use Rattle.std.proofs.Common.{◌≡◌, ℕ, zero, suc, List, [], ◌∷◌, ◌++◌, Some, None, replicate, refl}
use Rattle.std.specs.FinMap as maps
use Rattle.std.specs.Prelude.{codes}
use Rattle.press_bits.specs.Page.{Page, blank}
use Rattle.press_bits.specs.DotRule.{both_transparent}
use Rattle.press_bits.specs.Mark.{painted}
use Rattle.press_cmd.specs.Token.{Token, Escape, Grouped, Control, Broken, Uel}
use Rattle.press_cmd.specs.declared.variant.Kind.TheVariants as kinds
use Rattle.press_fill.specs.Fill.{fill_mark}
use Rattle.press_macros.specs.Macros.{Macros, no_macros, abandoned, permanent_macros}
use Rattle.press_pattern.specs.Solid.{solid_black}
use Rattle.press_store.specs.Things.{permanent_only}
use Rattle.press_pattern.specs.Store.{UserPatterns}
use Rattle.press_sink.specs.Sending.{Output, Deliver}
use Rattle.press_engine.specs.declared.machine.Last.TheVariants as lasts
use Rattle.press_page.specs.declared.media.Orientation.{Orientation}
use Rattle.press_page.specs.declared.media.Orientation.TheVariants.{Portrait, Landscape}
use Rattle.press_table.specs.Outcome.{power_on_state}
use Rattle.press_engine.specs.Machine.{StepResult, power_on}
use Rattle.press_engine.specs.Fold.{fold, whole_at, run_all}

-- ESC, a parameterized character, a group character, a field and a termination character
abbrev sequence : Char → Char → String → Char → Token
sequence character group field end = Grouped (code character) (code group) (codes field) (code end) []

abbrev star : Char → String → Char → Token
star = sequence "*"

-- ESC&l
abbrev page_control : String → Char → Token
page_control = sequence "&" "l"

abbrev reset_command : Token
reset_command = Escape (code "E")

abbrev form_feed_command : Token
form_feed_command = Control 12

-- the rectangle of three by two units, painted black
abbrev small_box : List Token
small_box = star "c" "3" "A" ∷ star "c" "2" "B" ∷ star "c" "0" "P" ∷ []

abbrev letter : Page
letter = blank 2550 3300

-- a black rectangle of so many columns and lines at a dot of the frame, on a page that is blank else
abbrev boxed : Orientation → Page → (x y columns lines : ℕ) → Page
boxed orientation page x y columns lines =
    painted page
    (fill_mark orientation page (record { x = x; y = y; width = columns; height = lines }) solid_black both_transparent)

-- what is left of no pattern after so many resets
abbrev no_pattern_after : ℕ → UserPatterns
no_pattern_after zero = maps.empty
no_pattern_after (suc resets) = permanent_only (no_pattern_after resets)

-- what is left of no macro after so many resets
abbrev no_macro_after : ℕ → Macros
no_macro_after zero = no_macros
no_macro_after (suc resets) = permanent_macros (abandoned (no_macro_after resets))

-- After so many steps with so many resets, of which the last step was a universal exit, the state is that of power on, but for
-- the sheets that went out.
abbrev ends_after : (steps resets sheets : ℕ) → List Output → StepResult
ends_after steps resets sheets outputs = record {
  machine = record {
    state = record power_on_state { sheets = sheets; since_job = sheets; patterns = no_pattern_after resets; macros = no_macro_after resets };
    step = steps;
    depth = 0;
    last = lasts.Ran kinds.Uel;
  };
  outputs = outputs;
}

abbrev front_alone : Page → Output
front_alone front = Deliver (record { front = front; back = None })

empty_stream : run_all (Uel ∷ []) power_on ≡ ends_after 1 1 0 []
unfolding fold whole_at
empty_stream = refl

blank_sheet : run_all (reset_command ∷ form_feed_command ∷ reset_command ∷ Uel ∷ []) power_on ≡ ends_after 4 3 1 (front_alone letter ∷ [])
unfolding fold whole_at
blank_sheet = refl

-- ESC E, ESC*p0x0Y, ESC*c3a2b0P, ESC E
box_at_the_origin :
    run_all (reset_command ∷ star "p" "0" "X" ∷ star "p" "0" "Y" ∷ small_box ++ (reset_command ∷ Uel ∷ [])) power_on
    ≡ ends_after 8 3 1 (front_alone (boxed Portrait letter 75 150 3 2) ∷ [])
unfolding fold whole_at
box_at_the_origin = refl

-- ESC*p10x20Y, ESC*c3a2b0P, FF
box_off_the_origin :
    run_all (star "p" "10" "X" ∷ star "p" "20" "Y" ∷ small_box ++ (form_feed_command ∷ Uel ∷ [])) power_on
    ≡ ends_after 7 1 1 (front_alone (boxed Portrait letter 85 170 3 2) ∷ [])
unfolding fold whole_at
box_off_the_origin = refl

-- ESC*p10, CR, FF: the broken sequence has no effect
broken_sequence :
    run_all (Broken (27 ∷ codes "*p10") ∷ Control 13 ∷ form_feed_command ∷ Uel ∷ []) power_on ≡ ends_after 4 1 1 (front_alone letter ∷ [])
unfolding fold whole_at
broken_sequence = refl

-- ESC&l1S, FF, ESC E: a front waits for its back, and goes out alone
front_goes_out_alone :
    run_all (page_control "1" "S" ∷ form_feed_command ∷ reset_command ∷ Uel ∷ []) power_on ≡ ends_after 4 2 1 (front_alone letter ∷ [])
unfolding fold whole_at
front_goes_out_alone = refl

-- ESC&l1S, ESC&l2X, FF, FF: two copies of a sheet with a blank front and a blank back
abbrev blank_sheet_on_both_sides : Output
blank_sheet_on_both_sides = Deliver (record { front = letter; back = Some letter })

two_copies_on_both_sides :
    run_all (page_control "1" "S" ∷ page_control "2" "X" ∷ form_feed_command ∷ form_feed_command ∷ Uel ∷ []) power_on
    ≡ ends_after 5 1 2 (blank_sheet_on_both_sides ∷ blank_sheet_on_both_sides ∷ [])
unfolding fold whole_at
two_copies_on_both_sides = refl

-- ESC&l1O, ESC*p0x0Y, ESC*c3a2b0P, FF: in landscape, at dot (60, 150) of the frame
box_in_landscape :
    run_all (page_control "1" "O" ∷ star "p" "0" "X" ∷ star "p" "0" "Y" ∷ small_box ++ (form_feed_command ∷ Uel ∷ [])) power_on
    ≡ ends_after 8 1 1 (front_alone (boxed Landscape letter 60 150 3 2) ∷ [])
unfolding fold whole_at
box_in_landscape = refl

-- a line feed that passes the end of the text closes the page: the first line is at 900, and a text of 60 lines ends at 72000
line_feeds : ℕ → List Token
line_feeds n = replicate n (Control 10)

no_page_after_59_line_feeds : (run_all (line_feeds 59) power_on).outputs ≡ []
unfolding fold whole_at line_feeds
no_page_after_59_line_feeds = refl

a_page_after_60_line_feeds : (run_all (line_feeds 60) power_on).outputs ≡ front_alone letter ∷ []
unfolding fold whole_at line_feeds
a_page_after_60_line_feeds = refl
