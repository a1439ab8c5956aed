-- Rows of raster graphics that are drawn one below the other: what they have in common, and the lines that are ready for them
-- (PCL 5 Printer Language Technical Reference Manual, Raster Graphics, Transfer Raster Data by Row command). No public clause
-- of this crate cites these.
use Rattle.std.specs.Prelude.{◌≡◌, ℕ, ◌+◌, ◌-◌, ◌*◌, ◌/◌, ◌≤◌, ℤ, pos, Bool, List, min, length, Some}
use Rattle.std.specs.FinSet as set
use Rattle.press_units.specs.Position.{positions_per_dot}
use Rattle.press_bits.specs.Bands.{BandedPage}
use Rattle.press_bits.specs.Lines.{bytes_per_line}
use Rattle.press_cursor.specs.CursorState.{CursorState}
use Rattle.press_page.specs.PageSetup.{logical_width, logical_length}
use Rattle.press_page.specs.Place.{lines_below}
use Rattle.press_page.specs.declared.environment.PageEnv.{PageEnv}
use Rattle.press_page.specs.declared.place.FrameLines.{FrameLines}
use Rattle.press_canvas.specs.Turned.{page_of_frame}
use Rattle.press_raster.specs.Across.{HasRoom, AcrossReady, across_of}
use Rattle.press_raster.specs.Graphics.{graphics, most_rows}
use Rattle.press_raster.specs.Rows.{Drawn, drawn}
use Rattle.press_raster.specs.Settings.{dot_size, row_height}
use Rattle.press_raster.specs.Transfer.{dots_of_row, row_corner}
use Rattle.press_raster.specs.declared.drawing.Drawing.{Drawing}
use Rattle.press_raster.specs.declared.drawing.RowSetup.{RowSetup}
use Rattle.press_raster.specs.declared.raster.RasterPosition.{RasterPosition}
use Rattle.press_raster.specs.declared.settings.RasterSettings.{RasterSettings}

-- What the rows of a transfer have in common, on a frame of this width.
abbrev pub setup_of : (width : ℕ) → PageEnv → RasterSettings → (left : ℕ) → RowSetup
setup_of width environment settings left =
    let dots = dots_of_row settings.source_width settings.resolution (logical_width environment.page_setup) left in record {
      environment = environment;
      settings = settings;
      across = across_of width (row_corner (record { environment = environment; y = pos 0 }) left).x
          (dot_size settings.resolution environment.page_setup.resolution) dots;
      dots = dots;
    }

-- width and height of a frame, and which of its lines are ready
pub record Layout : Type 0 where
  pub width : ℕ
  pub height : ℕ
  pub ready : List Bool

abbrev pub layout : BandedPage → Layout
layout page = record { width = page.page.width; height = page.page.height; ready = page.ready }

-- the white page that is laid out so
abbrev pub laid_out : Layout → BandedPage
laid_out page = record {
  page = record { width = page.width; height = page.height; black = set.empty };
  ready = page.ready;
}

-- What is drawn has room for the rows of a transfer, and its seed row is as wide as they are.
pub record IsSetUp (setup : RowSetup) (page : Layout) (drawing : Drawing) : Type 0 where
  pub same : setup ≡ setup_of page.width setup.environment setup.settings drawing.position.left
  pub seed : length drawing.seed.items ≡ bytes_per_line setup.dots
  pub row : length drawing.row.items ≡ bytes_per_line setup.dots
  pub room : HasRoom setup.across drawing.scratch.items

-- raster graphics whose rows are drawn, the page of the frame on which they are, and the cursor
abbrev pub drawn_by : RowSetup → Drawing → BandedPage → CursorState → Drawn
drawn_by setup drawing frame cursor =
    drawn (graphics (Some drawing.position) drawing.seed.items)
    (page_of_frame setup.environment.page_setup.orientation frame.page) cursor

-- where raster graphics stands after a row
abbrev pub one_row_on : RasterPosition → RasterPosition
one_row_on position = record position { rows = min most_rows (position.rows + 1) }

-- the lines of the frame that a row at this y covers
abbrev pub lines_at : RowSetup → (y : ℤ) → FrameLines
lines_at setup y =
    lines_below (row_corner (record { environment = setup.environment; y = y }) 0).y setup.across.size

-- the line of the frame at the lower edge of the logical page
abbrev pub last_line : PageEnv → ℕ
last_line environment = logical_length environment.page_setup / positions_per_dot environment.page_setup.resolution

-- how many lines of the frame a row takes down the page, the last of them maybe not whole
abbrev pub lines_of_row : RowSetup → ℕ
lines_of_row setup =
    let dot = positions_per_dot setup.environment.page_setup.resolution in
    (row_height setup.settings.resolution + (dot - 1)) / dot

-- The lines that so many rows cross, the first of them at this y, are ready.
pub record RowsReady (setup : RowSetup) (page : Layout) (y : ℤ) (rows : ℕ) : Type 0 where
  pub first : ℕ
  pub lines : ℕ
  pub ready : AcrossReady setup.across (laid_out page) first lines
  pub begins : first ≤ (lines_at setup y).first
  pub begins_last : first ≤ last_line setup.environment
  pub ends : min page.height ((lines_at setup y).first + rows * lines_of_row setup) ≤ first + lines
