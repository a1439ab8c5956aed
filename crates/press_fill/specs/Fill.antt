-- Rectangle fills (PCL 5 Printer Language Technical Reference Manual, "Rectangular Area Fill Graphics").
use Rattle.std.specs.Prelude.{Option, Some, None}
use Rattle.press_bits.specs.Mark.{Mark, painted, box_mark, box_source}
use Rattle.press_bits.specs.Page.{Page}
use Rattle.press_bits.specs.declared.mode.Mode.{Mode}
use Rattle.press_page.specs.Place.{placed_dot}
use Rattle.press_page.specs.declared.media.Orientation.{Orientation}
use Rattle.press_pattern.specs.Tiling.{Tiling, tile_dot}
use Rattle.press_pattern.specs.declared.brush.Brush.{Brush}
use Rattle.press_fill.specs.declared.rect.Rect.{Rect}

-- The mark of a rectangle on a page: all source dots black, the pattern dot of each dot of the frame is the tile's, and each
-- dot of the page is the dot of the frame that lies there.
abbrev pub fill_mark : Orientation → Page → Rect → Tiling → Mode → Mark
fill_mark orientation page rect tile mode = record {
  source = box_source rect.x rect.y rect.width rect.height;
  pattern = tile_dot tile;
  mode = mode;
  frame_dot = placed_dot orientation page.width page.height;
}

-- The mark of a rectangle on the frame itself.
abbrev pub rect_mark : Rect → Tiling → Mode → Mark
rect_mark rect tile mode = box_mark rect.x rect.y rect.width rect.height (tile_dot tile) mode

-- The page after a fill. A pattern that does not exist changes nothing.
abbrev pub filled : Orientation → Rect → Option Brush → Page → Page
filled orientation rect None page = page
filled orientation rect (Some brush) page = painted page (fill_mark orientation page rect brush.tile brush.mode)
