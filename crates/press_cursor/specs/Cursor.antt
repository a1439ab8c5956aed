-- The cursor: moves, home, and the stack (PCL 5 Printer Language Technical Reference Manual, cursor positioning).
use Rattle.std.specs.Prelude.{ℕ, ◌/◌, ◌*◌, ◌-◌, ℤ, pos, ◌+ℤ◌, Bool, nat_lt, max, min, if◌then◌else◌, [], length, take, Option, Some, None}
use Rattle.press_cursor.specs.Bounds.{nearest_x, nearest_y}
use Rattle.press_cursor.specs.CursorState.{CursorState}
use Rattle.press_cursor.specs.Stack.{with_pushed, newest}
use Rattle.press_cursor.specs.declared.logical_page.LogicalPage.{LogicalPage}
use Rattle.press_cursor.specs.declared.stack.CursorPosition.{CursorPosition}

-- where the cursor is
abbrev pub position : CursorState → CursorPosition
position cursor = record { x = cursor.x; y = cursor.y }

-- The cursor at a position, or at the nearest one within the logical page.
abbrev pub at : CursorPosition → LogicalPage → CursorState → CursorState
at position page cursor = record cursor { x = nearest_x (pos position.x) page; y = nearest_y position.y page }

-- The cursor where it is, or at the nearest position within the logical page.
abbrev pub clamped : LogicalPage → CursorState → CursorState
clamped page cursor = at (position cursor) page cursor

-- where a move begins: at the cursor, if the value had a sign, else where absolute positions begin
abbrev pub origin : (relative : Bool) (here absolute : ℤ) → ℤ
origin relative here absolute = if relative then here else absolute

-- A move along the line; x counts from the left edge of the logical page.
abbrev pub moved_x : (distance : ℤ) (relative : Bool) → LogicalPage → CursorState → CursorState
moved_x distance relative page cursor =
    record cursor { x = nearest_x (origin relative (pos cursor.x) (pos 0) +ℤ distance) page }

-- A move down or up; y counts from the top margin.
abbrev pub moved_y : (distance : ℤ) (relative : Bool) → LogicalPage → CursorState → CursorState
moved_y distance relative page cursor =
    record cursor { y = nearest_y (origin relative cursor.y (pos 0) +ℤ distance) page }

-- the first line: its baseline lies three quarters of a line below the top margin
abbrev pub first_line : (vertical_motion : ℕ) → ℤ
first_line vertical_motion = pos (3 * vertical_motion / 4)

abbrev pub first_line_y : (vertical_motion : ℕ) → LogicalPage → ℤ
first_line_y vertical_motion page = nearest_y (first_line vertical_motion) page

-- A move by rows (PCL 5, Vertical Cursor Positioning by Rows command); absolute rows count from the first line.
abbrev pub moved_rows :
    (distance : ℤ) (relative : Bool) (vertical_motion : ℕ) → LogicalPage → CursorState → CursorState
moved_rows distance relative vertical_motion page cursor =
    record cursor { y = nearest_y (origin relative cursor.y (first_line vertical_motion) +ℤ distance) page }

-- A move to the first line, within the logical page; x stays.
abbrev pub moved_to_first_line : (vertical_motion : ℕ) → LogicalPage → CursorState → CursorState
moved_to_first_line vertical_motion page cursor = record cursor { y = first_line_y vertical_motion page }

-- A move home: to the left margin and the first line, within the logical page; what was pushed stays pushed.
abbrev pub moved_home : (left_margin vertical_motion : ℕ) → LogicalPage → CursorState → CursorState
moved_home left_margin vertical_motion page cursor =
    record cursor { x = nearest_x (pos left_margin) page; y = first_line_y vertical_motion page }

-- The cursor at home, with nothing pushed.
abbrev pub home : (left_margin vertical_motion : ℕ) → LogicalPage → CursorState
home left_margin vertical_motion page =
    record { x = nearest_x (pos left_margin) page; y = first_line_y vertical_motion page; stack = [] }

-- A margin that has moved takes a cursor with it that lies outside (PCL 5, Left Margin and Right Margin commands).
abbrev pub is_left_of : (margin : ℕ) → CursorState → Bool
is_left_of margin cursor = nat_lt cursor.x margin

abbrev pub at_least : (margin : ℕ) → CursorState → CursorState
at_least margin cursor = record cursor { x = max cursor.x margin }

abbrev pub is_right_of : (margin : ℕ) → CursorState → Bool
is_right_of margin cursor = nat_lt margin cursor.x

abbrev pub at_most : (margin : ℕ) → CursorState → CursorState
at_most margin cursor = record cursor { x = min cursor.x margin }

-- ESC&f0S: the position is pushed, where there is room.
abbrev pub pushed : CursorState → CursorState
pushed cursor = record cursor { stack = with_pushed (position cursor) cursor.stack }

-- ESC&f1S: the position that was pushed last is popped, and the cursor moves to it, within the logical page; where
-- nothing is pushed it has no effect.
abbrev pub popped_to : Option CursorPosition → LogicalPage → CursorState → CursorState
popped_to None page cursor = cursor
popped_to (Some position) page cursor =
    at position page (record cursor { stack = take (length cursor.stack - 1) cursor.stack })

abbrev pub popped : LogicalPage → CursorState → CursorState
popped page cursor = popped_to (newest cursor.stack) page cursor
