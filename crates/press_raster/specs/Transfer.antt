-- A raster row (PCL 5 Printer Language Technical Reference Manual, Raster Graphics: "Transfer Raster Data by
-- Row" and Raster Width; how wide a row is without a source width is this profile's).
use Rattle.std.specs.Prelude.{ℕ, ◌+◌, ◌-◌, ◌*◌, ◌/◌, min, if◌then◌else◌, List, Option, Some, None, option_map}
use Rattle.press_units.specs.Measure.{positions_per_inch}
use Rattle.press_bits.specs.Lines.{bytes_per_line}
use Rattle.press_bits.specs.Mark.{Mark, Row, painted}
use Rattle.press_bits.specs.Page.{Page}
use Rattle.press_page.specs.PageSetup.{logical_width}
use Rattle.press_page.specs.Place.{cursor_dot}
use Rattle.press_page.specs.declared.place.CursorDot.{CursorDot}
use Rattle.press_pattern.specs.declared.brush.Brush.{Brush}
use Rattle.press_rows.specs.Row.{raster_row}
use Rattle.press_rows.specs.declared.compression.Method.{Method}
use Rattle.press_raster.specs.Graphics.{RasterGraphics, most_rows, is_below_height, trimmed}
use Rattle.press_raster.specs.Mark.{raster_mark}
use Rattle.press_raster.specs.Settings.{raster_dots_per_inch, dot_size}
use Rattle.press_raster.specs.declared.raster.RowPlace.{RowPlace}
use Rattle.press_raster.specs.declared.settings.RasterResolution.{RasterResolution}
use Rattle.press_raster.specs.declared.settings.RasterSettings.{RasterSettings}

-- How many dots a row has: those of the source width, or those from where rows begin to the right edge of the logical page.
abbrev pub dots_of_row : Option ℕ → RasterResolution → (logical_width left : ℕ) → ℕ
dots_of_row (Some width) resolution logical_width left = width
dots_of_row None resolution logical_width left =
    (logical_width - left) * raster_dots_per_inch resolution / positions_per_inch

abbrev pub row_dots : RowPlace → RasterSettings → (left : ℕ) → ℕ
row_dots place settings left =
    dots_of_row settings.source_width settings.resolution (logical_width place.environment.page_setup) left

-- The row that data stands for by a method, after the seed row.
abbrev pub row_of_data : RowPlace → RasterSettings → Method → List ℕ → RasterGraphics → Row
row_of_data place settings method «data» on =
    let dots = row_dots place settings on.left in
    record { bits = raster_row method «data» on.seed (bytes_per_line dots); dots = dots }

-- The row's upper left dot: the cursor's, were it where rows begin. It may lie above the frame.
abbrev pub row_corner : RowPlace → (left : ℕ) → CursorDot
row_corner place left =
    cursor_dot place.environment.page_setup place.environment.margins.top
    (record { x = left; y = place.y })

-- The mark of the row.
abbrev pub transfer_mark : RowPlace → RasterSettings → Brush → Method → List ℕ → RasterGraphics → Page → Mark
transfer_mark place settings brush method «data» on page =
    raster_mark place.environment.page_setup.orientation page (row_corner place on.left)
    (dot_size settings.resolution place.environment.page_setup.resolution) (row_of_data place settings method «data» on) brush

-- The page after a row: marked where the row has effect.
abbrev pub page_with_row : RowPlace → RasterSettings → Brush → Method → List ℕ → Option RasterGraphics → Page → Page
page_with_row place settings brush method «data» None page = page
page_with_row place settings brush method «data» (Some on) page =
    if is_below_height settings.source_height on.rows
    then painted page (transfer_mark place settings brush method «data» on page) else page

-- Raster graphics after a row that has effect: the row is the seed, and there is one more.
abbrev pub after_row : Row → RasterGraphics → RasterGraphics
after_row row on = record on { rows = min most_rows (on.rows + 1); seed = trimmed row.bits }

-- Raster graphics after a row.
abbrev pub transferred : RowPlace → RasterSettings → Method → List ℕ → Option RasterGraphics → Option RasterGraphics
transferred place settings method «data» =
    option_map
    (λ on. if is_below_height settings.source_height on.rows then after_row (row_of_data place settings method «data» on) on else on)
