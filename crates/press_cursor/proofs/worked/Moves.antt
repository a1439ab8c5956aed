-- Worked moves, pushes and pops, computed on the definitions.
use Rattle.std.proofs.Common.{◌≡◌, ℕ, ◌*◌, ◌+◌, pos, neg_ℤ, true, false, zero, suc, [], refl}
use Rattle.press_cursor.specs.Cursor.{home, position, at, moved_x, moved_y, moved_rows, moved_to_first_line, moved_home, clamped, is_left_of, at_least, is_right_of, at_most, pushed, popped}
use Rattle.press_cursor.specs.CursorState.{CursorState}
use Rattle.press_cursor.specs.declared.logical_page.LogicalPage.{LogicalPage}
use Rattle.press_cursor.specs.declared.stack.CursorPosition.{CursorPosition}

-- Letter in portrait, with the top margin of half an inch
abbrev letter : LogicalPage
letter = record { width = 57600; length = 79200; top_margin = 3600 }

abbrev start : CursorState
start = home 0 1200 letter

-- home is three quarters of a line below the top margin
home-y : start.y ≡ pos 900
home-y = refl

right_edge : (moved_x (pos 57601) false letter start).x ≡ 57600
right_edge = refl

left_edge : (moved_x (neg_ℤ (pos 24)) true letter start).x ≡ 0
left_edge = refl

upper_edge : (moved_y (neg_ℤ (pos 4501)) true letter start).y ≡ neg_ℤ (pos 3600)
upper_edge = refl

lower_edge : (moved_y (pos 75601) false letter start).y ≡ pos 75600
lower_edge = refl

-- an absolute row counts from home, a relative one from the cursor
third_row : (moved_rows (pos 2400) false 1200 letter start).y ≡ pos 3300
third_row = refl

row_up : (moved_rows (neg_ℤ (pos 1200)) true 1200 letter start).y ≡ neg_ℤ (pos 300)
row_up = refl

-- a greater top margin moves the lower edge up
clamped_below : (clamped (record letter { top_margin = 78600 }) start).y ≡ pos 600
clamped_below = refl

-- so many times: the cursor moves to the next of the dots 1, 2, 3, .. and is pushed
abbrev pushed_times : ℕ → CursorState
pushed_times zero = start
pushed_times (suc n) = pushed (moved_x (pos (24 * (n + 1))) false letter (pushed_times n))

abbrev popped_times : ℕ → CursorState → CursorState
popped_times zero cursor = cursor
popped_times (suc n) cursor = popped letter (popped_times n cursor)

-- The twenty-first push has no effect, nor has the twenty-first pop.
before_the_pops : (pushed_times 21).x ≡ 504
before_the_pops = refl

first_pop : (popped_times 1 (pushed_times 21)).x ≡ 480
first_pop = refl

twentieth_pop : (popped_times 20 (pushed_times 21)).x ≡ 24
twentieth_pop = refl

last_pop : (popped_times 21 (pushed_times 21)).x ≡ 24
last_pop = refl

abbrev place : (x : ℕ) (y : ℕ) → CursorPosition
place x y = record { x = x; y = pos y }

-- home at a left margin, a row, half a line down, and the first line again
margin_home : position (home 720 1200 letter) ≡ place 720 900
margin_home = refl

abbrev second_row : CursorState
second_row = moved_rows (neg_ℤ (pos 1200)) true 1200 letter (moved_rows (pos 2400) false 1200 letter (home 720 1200 letter))

row_back : second_row.y ≡ pos 2100
row_back = refl

half_line_down : (moved_y (pos 600) true letter second_row).y ≡ pos 2700
half_line_down = refl

first_line_again : position (moved_to_first_line 1200 letter second_row) ≡ place 720 900
first_line_again = refl

-- a smaller page cuts what lies outside
abbrev small : LogicalPage
small = record { width = 2400; length = 4800; top_margin = 0 }

abbrev corner : CursorState
corner = pushed (moved_y (neg_ℤ (pos 3600)) false letter (moved_x (pos 57600) false letter start))

corner_cut : position (clamped small corner) ≡ place 2400 0
corner_cut = refl

corner_popped : position (popped small corner) ≡ place 2400 0
corner_popped = refl

none_left : (popped small corner).stack ≡ []
none_left = refl

below_the_page : position (at (place 24 9600) small start) ≡ place 24 4800
below_the_page = refl

small_home : position (moved_home 240 1200 small start) ≡ place 240 900
small_home = refl

-- a margin takes the cursor along where it lies outside
on_the_left_margin : is_left_of 720 (home 720 1200 letter) ≡ false
on_the_left_margin = refl

left_of_the_margin : is_left_of 721 (home 720 1200 letter) ≡ true
left_of_the_margin = refl

taken_right : (at_least 721 (home 720 1200 letter)).x ≡ 721
taken_right = refl

on_the_right_margin : is_right_of 720 (home 720 1200 letter) ≡ false
on_the_right_margin = refl

right_of_the_margin : is_right_of 719 (home 720 1200 letter) ≡ true
right_of_the_margin = refl

taken_left : (at_most 719 (home 720 1200 letter)).x ≡ 719
taken_left = refl
