-- Rows of raster graphics (PCL 5 Printer Language Technical Reference Manual, Raster Graphics).
use Rattle.std.specs.Prelude.{ℕ, ◌*◌, ℤ, pos, negsuc, true, false, is_some, if◌then◌else◌, List, [], ◌∷◌, Option, Some, None, unwrap_or}
use Rattle.press_cursor.specs.Cursor.{moved_x, moved_y}
use Rattle.press_page.specs.Numbers.{named, above}
use Rattle.press_pattern.specs.Brush.{brush_of, black_brush}
use Rattle.press_pattern.specs.declared.brush.Brush.{Brush}
use Rattle.press_raster.specs.Graphics.{started, moved_down, takes_rows, passed}
use Rattle.press_raster.specs.Rows.{Drawn, drawn, drawn_rows}
use Rattle.press_raster.specs.Settings.{row_height, set_resolution}
use Rattle.press_raster.specs.declared.settings.RasterSettings.{RasterSettings}
use Rattle.press_raster.specs.declared.settings.RowCoding.TheVariants.{By}
use Rattle.press_rows.specs.declared.compression.Method.TheVariants.{Unencoded}
use Rattle.press_table.specs.declared.state.State.{State}
use Rattle.press_table.specs.Closing.{page_now}
use Rattle.press_table.specs.Outcome.{Effect, Changes, MayAllocate, bounds, ended_raster, with_drawing}
use Rattle.press_table.specs.Patterns.{pattern_now}

-- a change of what raster graphics is set to
abbrev pub with_raster : (RasterSettings → RasterSettings) → State → State
with_raster change = with_drawing (λ drawing. record drawing { raster = change drawing.raster })

-- one that raster graphics, while it is on, does not take
abbrev pub while_off : (RasterSettings → RasterSettings) → State → State
while_off change state = if is_some state.graphics then state else with_raster change state

-- ESC*t#R, raster graphics resolution, on the page of now
abbrev pub set_raster_resolution : ℤ → State → State
set_raster_resolution value state = while_off (set_resolution state.environment.page_setup.resolution value) state

-- ESC*r#A, start raster graphics: rows begin at the left edge of the logical page by 0 and 2, and at the cursor by 1 and 3
abbrev pub start_of : ℤ → (x : ℕ) → Option ℕ
start_of number x = named ((0, 0) ∷ (1, x) ∷ (2, 0) ∷ (3, x) ∷ []) number

-- it is on from there, and there the cursor is
abbrev pub start_at : Option ℕ → State → State
start_at None state = state
start_at (Some left) state =
    record state {
      cursor = moved_x (pos left) false (bounds state) state.cursor;
      graphics = started left state.graphics;
    }

-- where raster graphics is on, it goes on
abbrev pub start_raster : (number : ℤ) → State → State
start_raster number state =
    if is_some state.graphics then state else start_at (start_of number state.cursor.x) state

-- ESC*r#C, end raster graphics: the compression method is 0 then
abbrev pub end_raster_and_method : State → State
end_raster_and_method state =
    with_raster (λ settings. record settings { coding = By Unencoded }) (ended_raster state)

-- so many rows down from the cursor
abbrev pub rows_down : (rows : ℕ) → State → State
rows_down rows state =
    let distance = rows * row_height state.drawing.raster.resolution in
    record state { cursor = moved_y (pos distance) true (bounds state) state.cursor }

-- ESC*b#Y, raster Y offset
abbrev pub asked_offset : ℤ → Option ℕ
asked_offset (pos n) = above 0 n
asked_offset (negsuc n) = None

abbrev pub offset_by : Option ℕ → State → State
offset_by None state = state
offset_by (Some rows) state = record (rows_down rows state) { graphics = moved_down rows state.graphics }

abbrev pub offset_raster : (number : ℤ) → State → State
offset_raster number state = if is_some state.graphics then offset_by (asked_offset number) state else state

-- what rows are painted with: the pattern of now is always there
abbrev pub brush_now : State → Brush
brush_now state =
    unwrap_or (brush_of state.patterns (pattern_now state) state.drawing.mode) (black_brush state.drawing.mode)

-- what rows are drawn on: raster graphics, the page of now, and the cursor
abbrev pub drawn_now : State → Drawn
drawn_now state = drawn state.graphics (page_now state) state.cursor

-- the state after rows of which one had effect: the page has a mark then
abbrev pub with_drawn : Drawn → State → State
with_drawn drawn state =
    record state { graphics = drawn.graphics; page = Some drawn.page; cursor = drawn.cursor }

abbrev pub with_rows : List ℕ → State → State
with_rows bytes state =
    with_drawn (drawn_rows state.environment state.drawing.raster (brush_now state) bytes (drawn_now state)) state

-- the rows that have effect; without one, the data can only make the seed row white
abbrev pub transfer_rows : List ℕ → State → Effect
transfer_rows bytes state =
    if takes_rows state.drawing.raster bytes state.graphics then MayAllocate (with_rows bytes state)
    else Changes (record state { graphics = passed state.drawing.raster bytes state.graphics })

-- ESC*b#W, transfer raster data: where raster graphics is off, it starts at the left edge
abbrev pub transfer : List ℕ → State → Effect
transfer bytes state = transfer_rows bytes (start_raster (pos 0) state)
