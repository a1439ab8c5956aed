-- Placement: from a dot of the frame to a dot of the physical page and back (PCL 5 Printer Language Technical Reference
-- Manual, the PCL coordinate system and Logical Page Orientation command; the offsets are this profile's).
use Rattle.std.specs.Prelude.{◌≡◌, ◌↔◌, ℕ, suc, ◌+◌, ◌-◌, ◌/◌, ℤ, pos, negsuc, ◌+ℤ◌, ◌&&◌, Bool, nat_lt, if◌then◌else◌, Option, Some, None}
use Rattle.press_units.specs.Position.{dot_of, positions_per_dot}
use Rattle.press_cursor.specs.declared.stack.CursorPosition.{CursorPosition}
use Rattle.press_page.specs.PageSetup.{turned, offset}
use Rattle.press_page.specs.declared.media.Orientation.{Orientation}
use Rattle.press_page.specs.declared.media.Orientation.TheVariants.{Portrait, Landscape, ReversePortrait, ReverseLandscape}
use Rattle.press_page.specs.declared.media.PageSetup.{PageSetup}
use Rattle.press_page.specs.declared.place.CursorDot.{CursorDot}
use Rattle.press_page.specs.declared.place.Dot.{Dot}
use Rattle.press_page.specs.declared.place.Extent.{Extent}
use Rattle.press_page.specs.declared.place.FrameLines.{FrameLines}

-- whether a dot lies on a page of so many dots
abbrev pub lies_on : Extent → Dot → Bool
lies_on page dot = nat_lt dot.x page.width && nat_lt dot.y page.height

-- the dot of a physical page that a dot of its frame is
abbrev pub physical_dot : Orientation → Extent → Dot → Dot
physical_dot Portrait page dot = dot
physical_dot Landscape page dot = record { x = dot.y; y = page.height - 1 - dot.x }
physical_dot ReversePortrait page dot = record { x = page.width - 1 - dot.x; y = page.height - 1 - dot.y }
physical_dot ReverseLandscape page dot = record { x = page.width - 1 - dot.y; y = dot.x }

-- the dot of the frame that a dot of the physical page is
abbrev pub frame_dot : Orientation → Extent → Dot → Dot
frame_dot Portrait page dot = dot
frame_dot Landscape page dot = record { x = page.height - 1 - dot.y; y = dot.x }
frame_dot ReversePortrait page dot = record { x = page.width - 1 - dot.x; y = page.height - 1 - dot.y }
frame_dot ReverseLandscape page dot = record { x = dot.y; y = page.width - 1 - dot.x }

-- the dot of the frame that lies at a column and a line of a physical page of so many dots
abbrev pub placed_dot : Orientation → (width height column line : ℕ) → ℕ × ℕ
placed_dot orientation width height column line =
    let dot = frame_dot orientation (record { width = width; height = height }) (record { x = column; y = line }) in
    (dot.x, dot.y)

-- Placement: a dot of the frame has a physical dot, and a dot outside has none; and back.
abbrev pub to_physical : Orientation → Extent → Dot → Option Dot
to_physical orientation page dot =
    if lies_on (turned orientation page) dot then Some (physical_dot orientation page dot) else None

abbrev pub to_frame : Orientation → Extent → Dot → Option Dot
to_frame orientation page dot = if lies_on page dot then Some (frame_dot orientation page dot) else None

-- The two are inverse to each other on the page.
abbrev pub ArePlacementsInverse : Orientation → Extent → Type 0
ArePlacementsInverse orientation page =
    (inner physical : Dot)
    → (to_physical orientation page inner ≡ Some physical) ↔ (to_frame orientation page physical ≡ Some inner)

-- The cursor's frame dot: the dot of the frame on which the cursor lies, under a top margin. Its line is the floor also above
-- the upper edge of the frame, where it is negative.
abbrev pub cursor_dot : PageSetup → (top_margin : ℕ) → CursorPosition → CursorDot
cursor_dot page_setup top_margin cursor = record {
  x = offset page_setup + cursor.x / positions_per_dot page_setup.resolution;
  y = dot_of (cursor.y +ℤ pos top_margin) page_setup.resolution;
}

-- The lines of the frame that a mark of so many lines covers, from a line on: those above the upper edge are dropped.
abbrev pub lines_below : ℤ → (count : ℕ) → FrameLines
lines_below (pos line) count = record { first = line; count = count }
lines_below (negsuc above) count = record { first = 0; count = count - suc above }
