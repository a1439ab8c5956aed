-- Rows that move the cursor (PCL 5 Printer Language Technical Reference Manual, cursor positioning). Each row names its
-- command. The cursor stays on the logical page, and raster graphics ends.
use Rattle.std.specs.Prelude.{ℕ, ℤ, pos, Bool, true, false, is_some, ◌==◌, ◌&&◌, not, if◌then◌else◌}
use Rattle.std.specs.Ordering.{int_eq}
use Rattle.press_units.specs.Measure.{pcl_unit}
use Rattle.press_units.specs.Position.{position_of}
use Rattle.press_cursor.specs.Cursor.{moved_x, moved_y, moved_rows, moved_to_first_line, moved_home, clamped, is_left_of}
use Rattle.press_cursor.specs.Cursor.{is_right_of, at_least, at_most, pushed, popped}
use Rattle.press_cursor.specs.Stack.{has_room, newest}
use Rattle.press_page.specs.Environment.{asked_top, asked_skip, asked_left, asked_right, set_top_margin, set_perforation_skip}
use Rattle.press_page.specs.Environment.{set_left_margin, set_right_margin, passes_text}
use Rattle.press_page.specs.Settings.{half_line}
use Rattle.press_table.specs.declared.effect.EjectCause.TheVariants as causes
use Rattle.press_table.specs.declared.effect.Source.{Source}
use Rattle.press_table.specs.declared.effect.Source.TheVariants as sources
use Rattle.press_table.specs.declared.state.State.{State}
use Rattle.press_table.specs.Outcome.{Effect, Closes, Changes, bounds, ended_raster_if, moved, with_environment}

-- Moves along the line and down by a value of so many units; relative moves begin at the cursor.
abbrev pub move_along : (unit : ℕ) → ℤ → Bool → State → State
move_along unit value relative state =
    moved (moved_x (position_of value unit) relative (bounds state) state.cursor) state

abbrev pub move_down : (unit : ℕ) → ℤ → Bool → State → State
move_down unit value relative state =
    moved (moved_y (position_of value unit) relative (bounds state) state.cursor) state

-- ESC&a#R, vertical cursor positioning by rows: absolute rows count from the first line
abbrev pub move_rows : ℤ → Bool → State → State
move_rows value relative state =
    let line = state.environment.settings.vertical_motion in
    moved (moved_rows (position_of value line) relative line (bounds state) state.cursor) state

-- the units of the other moves: a column for ESC&a#C, a decipoint for ESC&a#H and ESC&a#V, a PCL unit for ESC*p#X and ESC*p#Y
abbrev pub column : State → ℕ
column state = state.environment.settings.horizontal_motion

abbrev pub pcl_unit_of : State → ℕ
pcl_unit_of state = pcl_unit state.environment.settings.unit_of_measure

-- the cursor on the left margin; y stays
abbrev pub to_left_margin : State → State
to_left_margin state =
    moved (moved_x (pos state.environment.margins.left) false (bounds state) state.cursor) state

-- the cursor on the first line; x stays
abbrev pub to_first_line : State → State
to_first_line state =
    moved (moved_to_first_line state.environment.settings.vertical_motion (bounds state) state.cursor) state

-- the cursor at home; what was pushed stays pushed
abbrev pub to_home : State → State
to_home state =
    moved (moved_home state.environment.margins.left state.environment.settings.vertical_motion (bounds state) state.cursor) state

-- whether a command comes from the body of an overlay, or of a macro that it started
abbrev pub in_overlay : Source → Bool
in_overlay sources.Overlay = true
in_overlay other = false

-- A feed goes down by a distance; where it would pass the end of the text, the page closes instead, but not in an overlay.
abbrev pub feed : Source → (distance : ℕ) → State → Effect
feed source distance state =
    if passes_text state.cursor.y distance state.environment && not (in_overlay source) then Closes causes.Feed state
    else Changes (moved (moved_y (pos distance) true (bounds state) state.cursor) state)

-- a carriage return before a line feed or a form feed, where line termination says so
abbrev pub returned : State → State
returned state =
    if state.environment.settings.line_termination.return_before_feed then to_left_margin state else state

-- LF
abbrev pub line_feed : Source → State → Effect
line_feed source state =
    let after = returned state in
    feed source after.environment.settings.vertical_motion after

-- CR; a line feed follows where line termination says so
abbrev pub carriage_return : Source → State → Effect
carriage_return source state =
    if state.environment.settings.line_termination.feed_after_return then line_feed source (to_left_margin state)
    else Changes (to_left_margin state)

-- FF
abbrev pub form_feed : State → Effect
form_feed state = Closes causes.Feed (returned state)

-- ESC =, half-line feed
abbrev pub half_line_feed : Source → State → Effect
half_line_feed source state = feed source (half_line state.environment.settings.vertical_motion) state

-- ESC&f#S, push/pop cursor position: 0 pushes, 1 pops; where there is room, and where there is one to pop, raster graphics ends
abbrev pub push : State → State
push state = ended_raster_if (has_room state.cursor.stack) (record state { cursor = pushed state.cursor })

abbrev pub pop : State → State
pop state =
    ended_raster_if (is_some (newest state.cursor.stack)) (record state { cursor = popped (bounds state) state.cursor })

abbrev pub push_or_pop : (number : ℤ) → State → State
push_or_pop number state =
    if int_eq number (pos 0) then push state
    else if int_eq number (pos 1) then pop state
    else state

-- ESC&l#E, top margin: where it has effect, the cursor goes to the first line
abbrev pub change_top_margin : ℤ → State → State
change_top_margin value state =
    let after = with_environment (set_top_margin value) state in
    if is_some (asked_top value state.environment) then to_first_line after else after

-- ESC&l#L, perforation skip: where it has effect, the cursor stays as far below the top margin as it was, on the logical page; another
-- top margin is a move
abbrev pub change_perforation_skip : ℤ → State → State
change_perforation_skip value state =
    let after = with_environment (set_perforation_skip value) state in
    if is_some (asked_skip value state.environment)
    then ended_raster_if (not (after.environment.margins.top == state.environment.margins.top))
    (record after { cursor = clamped (bounds after) after.cursor })
    else after

-- ESC&a#L, left margin: where it has effect, a cursor left of it moves to it
abbrev pub change_left_margin : ℤ → State → State
change_left_margin value state =
    let after = with_environment (set_left_margin value) state in
    if is_some (asked_left value state.environment)
    then ended_raster_if (is_left_of after.environment.margins.left after.cursor)
    (record after { cursor = at_least after.environment.margins.left after.cursor })
    else after

-- ESC&a#M, right margin: where it has effect, a cursor right of it moves to it
abbrev pub change_right_margin : ℤ → State → State
change_right_margin value state =
    let after = with_environment (set_right_margin value) state in
    if is_some (asked_right value state.environment)
    then ended_raster_if (is_right_of after.environment.margins.right after.cursor)
    (record after { cursor = at_most after.environment.margins.right after.cursor })
    else after
