-- The mark of a raster row (PCL 5 Printer Language Technical Reference Manual, Raster Graphics, The PCL Print Model, and
-- Logical Page Orientation command).
use Rattle.std.specs.Prelude.{ℕ, ◌+◌, ◌-◌, ◌*◌, ◌/◌, ◌&&◌, Bool, nat_le, nat_lt, if◌then◌else◌, Option, Some, None}
use Rattle.press_bits.specs.Mark.{Mark, Row, row_dot}
use Rattle.press_bits.specs.Page.{Page}
use Rattle.press_page.specs.Place.{lines_below, placed_dot}
use Rattle.press_page.specs.declared.media.Orientation.{Orientation}
use Rattle.press_page.specs.declared.media.Orientation.TheVariants.{Portrait}
use Rattle.press_page.specs.declared.place.CursorDot.{CursorDot}
use Rattle.press_page.specs.declared.place.FrameLines.{FrameLines}
use Rattle.press_pattern.specs.Tiling.{Tiling, tile_dot}
use Rattle.press_pattern.specs.declared.brush.Brush.{Brush}
use Rattle.press_bits.specs.declared.mode.Mode.{Mode}

-- The source of a strip of the frame, of so many columns and lines from x and y on: each of its lines has the same dots.
unfoldable pub strip_source : (x y columns lines : ℕ) → (dots : ℕ → Bool) → ℕ → ℕ → Option Bool
strip_source x y columns lines dots column line =
    if nat_le x column && nat_lt column (x + columns) && nat_le y line && nat_lt line (y + lines)
    then Some (dots (column - x)) else None

-- The mark of a strip: the pattern dot of each dot of the frame is the tile's, and each dot of the page is the dot of the
-- frame that lies there.
abbrev pub strip_mark :
    Orientation → (width height : ℕ) → (x y columns lines : ℕ) → (dots : ℕ → Bool) → Tiling → Mode → Mark
strip_mark orientation width height x y columns lines dots tile mode = record {
  source = strip_source x y columns lines dots;
  pattern = tile_dot tile;
  mode = mode;
  frame_dot = placed_dot orientation width height;
}

-- The mark of a raster row on lines of the frame, from a column on: the strip in which each dot of the row is so many dots
-- wide.
abbrev pub row_strip : Orientation → Page → (column : ℕ) → FrameLines → (size : ℕ) → Row → Brush → Mark
row_strip orientation page column lines size row brush =
    strip_mark orientation page.width page.height column lines.first (size * row.dots) lines.count
    (λ i. row_dot row.bits (i / size)) brush.tile brush.mode

-- The mark of a raster row on a page: it begins at a corner, each of its dots is so many dots wide and high, and what lies
-- above the frame is dropped.
abbrev pub raster_mark : Orientation → Page → (corner : CursorDot) → (size : ℕ) → Row → Brush → Mark
raster_mark orientation page corner size row brush =
    row_strip orientation page corner.x (lines_below corner.y size) size row brush

-- The mark of a raster row on the frame itself.
abbrev pub row_on_frame : (column : ℕ) → FrameLines → (size : ℕ) → Row → Brush → Page → Mark
row_on_frame column lines size row brush frame = row_strip Portrait frame column lines size row brush
