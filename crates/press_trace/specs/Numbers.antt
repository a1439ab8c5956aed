-- Settings by the numbers that the commands of PCL 5 have for them.
use Rattle.std.specs.Prelude.{ℕ, Option, Some, None}
use Rattle.press_page.specs.declared.media.Binding.{Binding}
use Rattle.press_page.specs.declared.media.Binding.TheVariants.{LongEdge, ShortEdge}
use Rattle.press_pattern.specs.declared.pattern.PatternKind.{PatternKind}
use Rattle.press_pattern.specs.declared.pattern.PatternKind.TheVariants as kinds
use Rattle.press_raster.specs.declared.raster.RasterPosition.{RasterPosition}
use Rattle.press_raster.specs.declared.settings.RowCoding.{RowCoding}
use Rattle.press_raster.specs.declared.settings.RowCoding.TheVariants.{By, Adaptive}
use Rattle.press_rows.specs.declared.compression.Method.TheVariants as methods
use Rattle.press_trace.specs.declared.told.Told.{Told}
use Rattle.press_trace.specs.declared.told.Told.TheVariants.{Number, Nothing}

-- the binding, as the command for simplex and duplex numbers it
abbrev pub binding_number : Binding → ℕ
binding_number LongEdge = 1
binding_number ShortEdge = 2

-- the kind of a pattern, as the command that selects the current one numbers it
abbrev pub pattern_number : PatternKind → ℕ
pattern_number kinds.Black = 0
pattern_number kinds.White = 1
pattern_number kinds.Shading = 2
pattern_number kinds.CrossHatch = 3
pattern_number kinds.User = 4

-- the compression method
abbrev pub method_number : RowCoding → ℕ
method_number (By methods.Unencoded) = 0
method_number (By methods.RunLength) = 1
method_number (By methods.PackBits) = 2
method_number (By methods.DeltaRow) = 3
method_number Adaptive = 5

-- where rows of raster graphics begin, and how many there were, while it is on
abbrev pub raster_left : Option RasterPosition → Told
raster_left None = Nothing
raster_left (Some position) = Number position.left

abbrev pub raster_rows : Option RasterPosition → Told
raster_rows None = Nothing
raster_rows (Some position) = Number position.rows
