-- The transfer of raster rows, one below the other (PCL 5 Printer Language Technical Reference Manual, Raster Graphics: Transfer
-- Raster Data by Row and Set Compression Method commands).
use Rattle.std.specs.Prelude.{ℕ, pos, true, if◌then◌else◌, List, Option, Some, None}
use Rattle.std.specs.List.{fold}
use Rattle.press_bits.specs.Page.{Page}
use Rattle.press_cursor.specs.Cursor.{moved_y}
use Rattle.press_cursor.specs.CursorState.{CursorState}
use Rattle.press_page.specs.Environment.{logical_page_of}
use Rattle.press_page.specs.declared.environment.PageEnv.{PageEnv}
use Rattle.press_pattern.specs.declared.brush.Brush.{Brush}
use Rattle.press_rows.specs.Blocks.{Item}
use Rattle.press_rows.specs.declared.compression.Method.{Method}
use Rattle.press_raster.specs.Graphics.{RasterGraphics, takes_row, whitened}
use Rattle.press_raster.specs.Settings.{items_of, row_height}
use Rattle.press_raster.specs.Transfer.{page_with_row, transferred}
use Rattle.press_raster.specs.declared.raster.RowPlace.{RowPlace}
use Rattle.press_raster.specs.declared.settings.RasterSettings.{RasterSettings}

-- What a row changes: raster graphics, the page, and where the cursor is, which is where the next row lies.
pub record Drawn : Type 0 where
  pub graphics : Option RasterGraphics
  pub page : Page
  pub cursor : CursorState

abbrev pub drawn : Option RasterGraphics → Page → CursorState → Drawn
drawn graphics page cursor = record { graphics = graphics; page = page; cursor = cursor }

-- where the next row lies
abbrev pub next_place : PageEnv → Drawn → RowPlace
next_place environment drawn = record { environment = environment; y = drawn.cursor.y }

-- A row by a method: the page has its mark, it is the seed row and counts, and the cursor is a row further down.
abbrev pub with_row : PageEnv → RasterSettings → Brush → Method → List ℕ → Drawn → Drawn
with_row environment settings brush method «data» drawn =
    let place = next_place environment drawn in record {
      graphics = transferred place settings method «data» drawn.graphics;
      page = page_with_row place settings brush method «data» drawn.graphics drawn.page;
      cursor = moved_y (pos (row_height settings.resolution)) true (logical_page_of environment) drawn.cursor;
    }

-- One item of data: a row, where the next one has effect; or a white seed row in place of a row.
abbrev pub with_item : PageEnv → RasterSettings → Brush → Drawn → Item → Drawn
with_item environment settings brush drawn None = record drawn { graphics = whitened drawn.graphics }
with_item environment settings brush drawn (Some row) =
    if takes_row settings drawn.graphics then with_row environment settings brush row.0 row.1 drawn else drawn

-- Items of data, one after another.
abbrev pub with_items : PageEnv → RasterSettings → Brush → List Item → Drawn → Drawn
with_items environment settings brush items drawn = fold (with_item environment settings brush) drawn items

-- The data of a transfer: its rows one below the other.
abbrev pub drawn_rows : PageEnv → RasterSettings → Brush → List ℕ → Drawn → Drawn
drawn_rows environment settings brush «data» drawn =
    with_items environment settings brush (items_of settings.coding «data») drawn
