-- Rows that fill rectangles (PCL 5 Printer Language Technical Reference Manual, Rectangular Area Fill Graphics).
use Rattle.std.specs.Prelude.{ℤ, pos, ◌&&◌, nat_lt, if◌then◌else◌, Option, Some, None, option_map}
use Rattle.std.specs.Ordering.{int_eq}
use Rattle.press_cursor.specs.Cursor.{position}
use Rattle.press_fill.specs.Fill.{filled}
use Rattle.press_fill.specs.declared.rect.Rect.{Rect}
use Rattle.press_page.specs.Place.{cursor_dot, lines_below}
use Rattle.press_page.specs.declared.place.CursorDot.{CursorDot}
use Rattle.press_pattern.specs.Brush.{brush_of}
use Rattle.press_pattern.specs.declared.pattern.Pattern.{Pattern}
use Rattle.press_table.specs.declared.state.State.{State}
use Rattle.press_table.specs.Closing.{page_now}
use Rattle.press_table.specs.Outcome.{Effect, Changes, MayAllocate}
use Rattle.press_table.specs.Patterns.{exists, kind_of_number, pattern_of_kind, pattern_now}
use Rattle.press_table.specs.Rectangle.{dots_up}

-- the dot of the frame on which the cursor lies
abbrev pub corner : State → CursorDot
corner state = cursor_dot state.environment.page_setup state.environment.margins.top (position state.cursor)

-- the rectangle at the cursor, in dots of the frame: what lies above the frame is dropped
abbrev pub rect_now : State → Rect
rect_now state =
    let corner = corner state in
    let dots = dots_up state.environment.page_setup.resolution in
    let rectangle = state.drawing.rectangle in
    let lines = lines_below corner.y (dots rectangle.height) in
    record { x = corner.x; y = lines.first; width = dots rectangle.width; height = lines.count }

-- The page, open, with the rectangle at the cursor filled with a pattern. Nothing else changes, also not the cursor.
abbrev pub fill_rectangle : Pattern → State → State
fill_rectangle pattern state =
    record state {
      page = Some (filled state.environment.page_setup.orientation (rect_now state)
          (brush_of state.patterns pattern state.drawing.mode) (page_now state));
    }

-- The rectangle is filled, which may want memory, where the pattern exists and width and height are above 0. Elsewhere nothing changes.
abbrev pub fill_with : Pattern → State → Effect
fill_with pattern state =
    let rectangle = state.drawing.rectangle in
    if exists pattern state && nat_lt 0 rectangle.width && nat_lt 0 rectangle.height
    then MayAllocate (fill_rectangle pattern state) else Changes state

-- the pattern that a number names: 5 the current one, others a kind under the pattern ID
abbrev pub fill_pattern : (number : ℤ) → State → Option Pattern
fill_pattern number state =
    if int_eq number (pos 5) then Some (pattern_now state)
    else option_map (λ kind. pattern_of_kind kind state) (kind_of_number number)

abbrev pub fill_named : Option Pattern → State → Effect
fill_named None state = Changes state
fill_named (Some pattern) state = fill_with pattern state

-- ESC*c#P, fill rectangular area
abbrev pub fill : (number : ℤ) → State → Effect
fill number state = fill_named (fill_pattern number state) state
