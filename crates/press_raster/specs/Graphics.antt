-- Raster graphics, off or on (PCL 5 Printer Language Technical Reference Manual, Raster Graphics: Start Raster Graphics,
-- Raster Y Offset, End Raster Graphics and Set Compression Method commands).
use Rattle.std.specs.Prelude.{ℕ, ◌+◌, ◌&&◌, Bool, true, false, if◌then◌else◌, nat_lt, min, ◌==◌, List, [], ◌∷◌, Option, Some, None, option_map, is_some, is_none, refl}
use Rattle.std.specs.List.{list_all, list_any}
use Rattle.std.specs.Coded.{Coded, code_by, coded×, coded_ℕ, coded_list, coded_option}
use Rattle.press_units.specs.Value.{greatest}
use Rattle.press_raster.specs.declared.raster.RasterPosition.{RasterPosition}
use Rattle.press_raster.specs.declared.settings.RasterSettings.{RasterSettings}
use Rattle.press_raster.specs.Settings.{items_of}

-- Raster graphics that is on: where its rows begin, in positions from the left edge of the logical page; how many rows
-- there were; and the seed row, the row before the next one, without the white bytes at its end.
pub record RasterGraphics : Type 0 where
  pub left : ℕ
  pub rows : ℕ
  pub seed : List ℕ

-- It is stored as its two numbers and its bytes, if it is on.
abbrev pub graphics_code : Coded (Option RasterGraphics)
graphics_code =
    coded_option (code_by (ℕ × (ℕ × List ℕ)) (coded× coded_ℕ (coded× coded_ℕ (coded_list coded_ℕ)))
    (λ on. (on.left, (on.rows, on.seed)))
    (λ s. record { left = s.0; rows = s.1.0; seed = s.1.1 })
    (λ _. refl))

-- whether all bytes are white
abbrev pub are_white : List ℕ → Bool
are_white bytes = list_all (λ byte. byte == 0) bytes

-- a row without the white bytes at its end: a white one has none
abbrev pub trimmed : List ℕ → List ℕ
trimmed [] = []
trimmed (byte ∷ bytes) = if are_white (byte ∷ bytes) then [] else byte ∷ trimmed bytes

-- the most rows that are counted: the greatest value (this profile)
abbrev pub most_rows : ℕ
most_rows = greatest

-- raster graphics by where it stands, if it is on, and its seed row
abbrev pub graphics : Option RasterPosition → List ℕ → Option RasterGraphics
graphics position seed =
    option_map (λ place. record { left = place.left; rows = place.rows; seed = trimmed seed }) position

-- where its rows begin, and how many there were, if it is on
abbrev pub raster_position : Option RasterGraphics → Option RasterPosition
raster_position = option_map (λ on. record { left = on.left; rows = on.rows })

-- ESC*r#A, Start Raster Graphics: where it is off it begins with a white seed row, and where it is on it goes on.
abbrev pub started : (left : ℕ) → Option RasterGraphics → Option RasterGraphics
started left None = Some (record { left = left; rows = 0; seed = [] })
started left (Some on) = Some on

-- ESC*b#Y, Raster Y Offset: so many rows are left out, and the seed row is white then.
abbrev pub moved_down : ℕ → Option RasterGraphics → Option RasterGraphics
moved_down rows None = None
moved_down rows (Some on) = Some (record on { rows = min most_rows (on.rows + rows); seed = [] })

-- Whether so many rows are fewer than the height of the source; no number is where it is unset.
abbrev pub is_below_height : Option ℕ → (rows : ℕ) → Bool
is_below_height None rows = true
is_below_height (Some height) rows = nat_lt rows height

-- Whether the next row has effect: it has none where raster graphics is off, and where the rows have reached the height of the
-- source.
abbrev pub takes_row : RasterSettings → Option RasterGraphics → Bool
takes_row settings None = false
takes_row settings (Some on) = is_below_height settings.source_height on.rows

-- Whether a transfer has a row that has effect.
abbrev pub takes_rows : RasterSettings → List ℕ → Option RasterGraphics → Bool
takes_rows settings «data» graphics = takes_row settings graphics && list_any is_some (items_of settings.coding «data»)

-- raster graphics with a white seed row
abbrev pub whitened : Option RasterGraphics → Option RasterGraphics
whitened graphics = option_map (λ (on : RasterGraphics). record on { seed = [] }) graphics

-- Raster graphics after data of which no row has effect: the seed row is white where an item says so.
abbrev pub passed : RasterSettings → List ℕ → Option RasterGraphics → Option RasterGraphics
passed settings «data» graphics =
    if list_any is_none (items_of settings.coding «data») then whitened graphics else graphics
