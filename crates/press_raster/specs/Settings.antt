-- What raster graphics is set to (PCL 5 Printer Language Technical Reference Manual, Raster Graphics: Raster Graphics
-- Resolution, Raster Width, Raster Height and Set Compression Method commands).
use Rattle.std.specs.Prelude.{ℕ, ◌/◌, ◌%◌, ◌==◌, ◌&&◌, Bool, ℤ, pos, negsuc, nat_lt, if◌then◌else◌, List, [], ◌∷◌, Option, Some, None, option_map}
use Rattle.std.specs.List.{find}
use Rattle.std.specs.Ordering.{int_eq}
use Rattle.press_units.specs.Measure.{positions_per_inch}
use Rattle.press_units.specs.Position as positions
use Rattle.press_units.specs.Value.{whole_part}
use Rattle.press_units.specs.declared.position.Resolution.{Resolution}
use Rattle.press_page.specs.Environment.{changed_by}
use Rattle.press_rows.specs.Blocks.{Item, items}
use Rattle.press_rows.specs.Methods.{method_of}
use Rattle.press_rows.specs.declared.compression.Method.TheVariants.{Unencoded}
use Rattle.press_raster.specs.declared.settings.RowCoding.{RowCoding}
use Rattle.press_raster.specs.declared.settings.RowCoding.TheVariants.{By, Adaptive}
use Rattle.press_raster.specs.declared.settings.RasterResolution.{RasterResolution}
use Rattle.press_raster.specs.declared.settings.RasterResolution.TheVariants.{Dpi75, Dpi100, Dpi150, Dpi200, Dpi300, Dpi600}
use Rattle.press_raster.specs.declared.settings.RasterSettings.{RasterSettings}

-- dots of an inch
abbrev pub raster_dots_per_inch : RasterResolution → ℕ
raster_dots_per_inch Dpi75 = 75
raster_dots_per_inch Dpi100 = 100
raster_dots_per_inch Dpi150 = 150
raster_dots_per_inch Dpi200 = 200
raster_dots_per_inch Dpi300 = 300
raster_dots_per_inch Dpi600 = 600

-- how many positions a row takes down the page
abbrev pub row_height : RasterResolution → ℕ
row_height resolution = positions_per_inch / raster_dots_per_inch resolution

-- all resolutions of rows
abbrev pub raster_resolutions : List RasterResolution
raster_resolutions = Dpi75 ∷ Dpi100 ∷ Dpi150 ∷ Dpi200 ∷ Dpi300 ∷ Dpi600 ∷ []

-- whether a dot of a row is a whole number of dots of a page, and how many of them it is wide and high
abbrev pub is_whole_dots : RasterResolution → Resolution → Bool
is_whole_dots resolution print = positions.dots_per_inch print % raster_dots_per_inch resolution == 0

abbrev pub dot_size : RasterResolution → Resolution → ℕ
dot_size resolution print = positions.dots_per_inch print / raster_dots_per_inch resolution

-- the settings after a reset
abbrev pub initial : RasterSettings
initial = record { resolution = Dpi75; coding = By Unencoded; source_width = None; source_height = None }

-- ESC*t#R, Raster Graphics Resolution: of so many dots per inch, if one is a whole number of dots of the page
abbrev pub resolution_of : Resolution → ℤ → Option RasterResolution
resolution_of print number =
    find (λ resolution. int_eq (pos (raster_dots_per_inch resolution)) number && is_whole_dots resolution print) raster_resolutions

abbrev pub set_resolution : Resolution → ℤ → RasterSettings → RasterSettings
set_resolution print value =
    changed_by (resolution_of print (whole_part value))
    (λ resolution settings. record settings { resolution = resolution })

-- a side of a raster picture, in its dots: at least one
abbrev pub side_of : ℤ → Option ℕ
side_of (pos n) = if nat_lt 0 n then Some n else None
side_of (negsuc n) = None

-- ESC*r#S, Raster Width
abbrev pub set_source_width : ℤ → RasterSettings → RasterSettings
set_source_width value =
    changed_by (side_of (whole_part value)) (λ width settings. record settings { source_width = Some width })

-- ESC*r#T, Raster Height
abbrev pub set_source_height : ℤ → RasterSettings → RasterSettings
set_source_height value =
    changed_by (side_of (whole_part value)) (λ height settings. record settings { source_height = Some height })

-- how the data of a transfer stands for rows, by the number of a method: 0 to 3 for one row by that method, 5 for rows by
-- adaptive compression
abbrev pub coding_of : ℤ → Option RowCoding
coding_of number = if int_eq number (pos 5) then Some Adaptive else option_map By (method_of number)

-- ESC*b#M, Set Compression Method
abbrev pub set_method : ℤ → RasterSettings → RasterSettings
set_method value =
    changed_by (coding_of (whole_part value)) (λ coding settings. record settings { coding = coding })

-- what the data of a transfer stands for: one row by the method, or what adaptive data does
abbrev pub items_of : RowCoding → List ℕ → List Item
items_of (By method) «data» = Some (method, «data») ∷ []
items_of Adaptive «data» = items 0 «data»
