-- Page sizes, orientations and the sides that are printed (PCL 5 Printer Language Technical Reference Manual, Page
-- Control Commands: Page Size, Logical Page Orientation, Simplex/Duplex Print; the sizes in dots, the offsets and which
-- sizes there are, are this profile's).
use Rattle.std.specs.Prelude.{ℕ, ◌*◌, ◌-◌, ◌/◌, ℤ, true, false, List, [], ◌∷◌, Option, if◌then◌else◌}
use Rattle.press_units.specs.Measure.{positions_per_inch}
use Rattle.press_units.specs.declared.position.Resolution.{Resolution}
use Rattle.press_units.specs.declared.position.Resolution.TheVariants.{Dpi300, Dpi600}
use Rattle.press_cursor.specs.declared.logical_page.LogicalPage.{LogicalPage}
use Rattle.press_page.specs.Numbers.{numbered}
use Rattle.press_page.specs.declared.media.Binding.{Binding}
use Rattle.press_page.specs.declared.media.Binding.TheVariants as bindings
use Rattle.press_page.specs.declared.media.Dimensions.{Dimensions}
use Rattle.press_page.specs.declared.media.Orientation.{Orientation}
use Rattle.press_page.specs.declared.media.Orientation.TheVariants.{Portrait, Landscape, ReversePortrait, ReverseLandscape}
use Rattle.press_page.specs.declared.media.PageSize.{PageSize}
use Rattle.press_page.specs.declared.media.PageSize.TheVariants.{Executive, Letter, Legal, Ledger, A4, A3}
use Rattle.press_page.specs.declared.media.PageSetup.{PageSetup}
use Rattle.press_page.specs.declared.media.DuplexMode.{DuplexMode}
use Rattle.press_page.specs.declared.media.DuplexMode.TheVariants.{OneSided, TwoSidedLongEdge, TwoSidedShortEdge}
use Rattle.press_page.specs.declared.place.Extent.{Extent}

-- ESC&l#A, the number of a page size, and the page size of a number
abbrev pub size_number : PageSize → ℕ
size_number Executive = 1
size_number Letter = 2
size_number Legal = 3
size_number Ledger = 6
size_number A4 = 26
size_number A3 = 27

abbrev pub page_sizes : List PageSize
page_sizes = Letter ∷ Legal ∷ A4 ∷ Executive ∷ Ledger ∷ A3 ∷ []

abbrev pub page_size_of : ℤ → Option PageSize
page_size_of = numbered size_number page_sizes

-- ESC&l#O, the number of an orientation, and the orientation of a number
abbrev pub orientation_number : Orientation → ℕ
orientation_number Portrait = 0
orientation_number Landscape = 1
orientation_number ReversePortrait = 2
orientation_number ReverseLandscape = 3

abbrev pub orientations : List Orientation
orientations = Portrait ∷ Landscape ∷ ReversePortrait ∷ ReverseLandscape ∷ []

abbrev pub orientation_of : ℤ → Option Orientation
orientation_of = numbered orientation_number orientations

-- ESC&l#S, the number of simplex or duplex print, and what a number asks for
abbrev pub duplex_number : DuplexMode → ℕ
duplex_number OneSided = 0
duplex_number TwoSidedLongEdge = 1
duplex_number TwoSidedShortEdge = 2

abbrev pub all_duplex_modes : List DuplexMode
all_duplex_modes = OneSided ∷ TwoSidedLongEdge ∷ TwoSidedShortEdge ∷ []

abbrev pub duplex_of : ℤ → Option DuplexMode
duplex_of = numbered duplex_number all_duplex_modes

-- width, height, and how far the logical page begins right of the page's left edge in portrait and in landscape
abbrev pub sized : (width height portrait_offset landscape_offset : ℕ) → Dimensions
sized width height portrait_offset landscape_offset = record {
  width = width;
  height = height;
  portrait_offset = portrait_offset;
  landscape_offset = landscape_offset;
}

-- The page sizes, in dots of 1/300 inch.
abbrev pub dimensions_of : PageSize → Dimensions
dimensions_of Letter = sized 2550 3300 75 60
dimensions_of Legal = sized 2550 4200 75 60
dimensions_of A4 = sized 2480 3507 71 59
dimensions_of Executive = sized 2175 3150 75 60
dimensions_of Ledger = sized 3300 5100 75 60
dimensions_of A3 = sized 3507 4960 71 59

-- The frame: the physical page, turned in the two landscape orientations.
abbrev pub turned : Orientation → Extent → Extent
turned Portrait page = page
turned Landscape page = record { width = page.height; height = page.width }
turned ReversePortrait page = page
turned ReverseLandscape page = record { width = page.height; height = page.width }

-- The logical page is the frame without the offset at its left and at its right.
abbrev pub offset_of : Orientation → Dimensions → ℕ
offset_of Portrait size = size.portrait_offset
offset_of Landscape size = size.landscape_offset
offset_of ReversePortrait size = size.portrait_offset
offset_of ReverseLandscape size = size.landscape_offset

-- the frame and the offset of the logical page, in dots of the table
abbrev pub table_frame : PageSetup → Extent
table_frame page_setup =
    let size = dimensions_of page_setup.size in
    turned page_setup.orientation (record { width = size.width; height = size.height })

abbrev pub table_offset : PageSetup → ℕ
table_offset page_setup = offset_of page_setup.orientation (dimensions_of page_setup.size)

-- how many dots of a page a dot of the table is, along a line
abbrev pub scale : Resolution → ℕ
scale Dpi300 = 1
scale Dpi600 = 2

-- the physical page, the frame, and the offset of the logical page, in dots of the page
abbrev pub physical_page : PageSetup → Extent
physical_page page_setup = record {
  width = (dimensions_of page_setup.size).width * scale page_setup.resolution;
  height = (dimensions_of page_setup.size).height * scale page_setup.resolution;
}

abbrev pub frame : PageSetup → Extent
frame page_setup = turned page_setup.orientation (physical_page page_setup)

abbrev pub offset : PageSetup → ℕ
offset page_setup = table_offset page_setup * scale page_setup.resolution

-- positions of a dot of the table
abbrev pub table_dot : ℕ
table_dot = positions_per_inch / 300

-- width and length of the logical page, in positions: they are the same at each resolution
abbrev pub logical_width : PageSetup → ℕ
logical_width page_setup = table_dot * ((table_frame page_setup).width - 2 * table_offset page_setup)

abbrev pub logical_length : PageSetup → ℕ
logical_length page_setup = table_dot * (table_frame page_setup).height

-- the logical page under a top margin
abbrev pub logical_page : PageSetup → (top_margin : ℕ) → LogicalPage
logical_page page_setup top_margin =
    record { width = logical_width page_setup; length = logical_length page_setup; top_margin = top_margin }

-- The media after ESC&l#S: simplex leaves the binding.
abbrev pub with_duplex : DuplexMode → PageSetup → PageSetup
with_duplex OneSided page_setup = record page_setup { duplex = false }
with_duplex TwoSidedLongEdge page_setup = record page_setup { duplex = true; binding = bindings.LongEdge }
with_duplex TwoSidedShortEdge page_setup = record page_setup { duplex = true; binding = bindings.ShortEdge }

-- both sides, bound along an edge
abbrev pub two_sided : Binding → DuplexMode
two_sided bindings.LongEdge = TwoSidedLongEdge
two_sided bindings.ShortEdge = TwoSidedShortEdge

-- The sides that are printed on the media.
abbrev pub duplex_mode : PageSetup → DuplexMode
duplex_mode page_setup = if page_setup.duplex then two_sided page_setup.binding else OneSided
