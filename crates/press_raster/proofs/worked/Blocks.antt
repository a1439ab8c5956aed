-- Transfers of adaptive data, computed on the definitions.
use Rattle.std.proofs.Common.{◌≡◌, ℕ, true, false, pos, List, [], ◌∷◌, Option, Some, None, map, refl}
use Rattle.std.specs.Prelude.{codes}
use Rattle.press_units.specs.Value.{tenthousandths_of}
use Rattle.press_units.specs.declared.position.Resolution.TheVariants.{Dpi300}
use Rattle.press_bits.specs.DotRule.{both_transparent}
use Rattle.press_bits.specs.Page.{blank}
use Rattle.press_page.specs.Environment.{factory, reset_environment}
use Rattle.press_page.specs.declared.environment.PageEnv.{PageEnv}
use Rattle.press_pattern.specs.Brush.{black_brush}
use Rattle.press_rows.specs.Blocks.{items}
use Rattle.press_rows.specs.DeltaRow.{deltas, replacements, laid_over}
use Rattle.press_rows.specs.Row.{raster_row}
use Rattle.press_rows.specs.declared.compression.Method.TheVariants.{Unencoded, DeltaRow}
use Rattle.press_raster.specs.Graphics.{RasterGraphics, takes_rows, passed}
use Rattle.press_raster.specs.Rows.{Drawn, drawn, drawn_rows}
use Rattle.press_raster.specs.Settings.{initial, coding_of, set_method, set_resolution, set_source_height, set_source_width}
use Rattle.press_raster.specs.declared.settings.RasterSettings.{RasterSettings}
use Rattle.press_raster.specs.declared.settings.RowCoding.TheVariants.{By, Adaptive}

-- the numbers of methods: 4 and 6 are none
numbers : map (λ number. coding_of (pos number)) (0 ∷ 3 ∷ 4 ∷ 5 ∷ 6 ∷ []) ≡ Some (By Unencoded) ∷ Some (By DeltaRow) ∷ None ∷ Some Adaptive ∷ None ∷ []
numbers = refl

-- ESC*t300R, ESC*r8S, ESC*b5M on Letter in portrait
abbrev settings : RasterSettings
settings =
    set_method (tenthousandths_of (codes "5"))
    (set_source_width (tenthousandths_of (codes "8")) (set_resolution Dpi300 (tenthousandths_of (codes "300")) initial))

abbrev environment : PageEnv
environment = reset_environment factory

-- ESC*r0A at the home of the cursor, with a seed row
abbrev on : List ℕ → Option RasterGraphics
on seed = Some (record { left = 0; rows = 0; seed = seed })

abbrev start : List ℕ → Drawn
start seed = drawn (on seed) (blank 1 1) (record { x = 0; y = pos 900; stack = [] })

abbrev after : RasterSettings → List ℕ → Drawn → Drawn
after settings «data» from = drawn_rows environment settings (black_brush both_transparent) «data» from

-- a row, the same twice more, an empty one, and a delta row of that: five rows, and the last is the seed row
abbrev five : List ℕ
five = 0x00 ∷ 0x00 ∷ 0x01 ∷ 0xFF ∷ 0x05 ∷ 0x00 ∷ 0x02 ∷ 0x04 ∷ 0x00 ∷ 0x01 ∷ 0x03 ∷ 0x00 ∷ 0x02 ∷ 0x00 ∷ 0x81 ∷ []

five_rows : (after settings five (start [])).graphics ≡ Some (record { left = 0; rows = 5; seed = 0x81 ∷ [] })
unfolding items raster_row deltas replacements laid_over
five_rows = refl

five_down : (after settings five (start [])).cursor.y ≡ pos 1020
unfolding items raster_row deltas replacements laid_over
five_down = refl

-- two rows of source height: later rows leave the seed row, but a count of 0 makes it white
cut_off :
    (after (set_source_height (tenthousandths_of (codes "2")) settings)
    (0x00 ∷ 0x00 ∷ 0x01 ∷ 0xFF ∷ 0x05 ∷ 0x00 ∷ 0x02 ∷ 0x00 ∷ 0x00 ∷ 0x01 ∷ 0xAA ∷ 0x05 ∷ 0x00 ∷ 0x00 ∷ []) (start [])).graphics
    ≡ Some (record { left = 0; rows = 2; seed = [] })
unfolding items raster_row deltas replacements laid_over
cut_off = refl

cut_off_seed :
    (after (set_source_height (tenthousandths_of (codes "2")) settings)
    (0x00 ∷ 0x00 ∷ 0x01 ∷ 0xFF ∷ 0x05 ∷ 0x00 ∷ 0x02 ∷ 0x00 ∷ 0x00 ∷ 0x01 ∷ 0xAA ∷ []) (start [])).graphics
    ≡ Some (record { left = 0; rows = 2; seed = 0xFF ∷ [] })
unfolding items raster_row deltas replacements laid_over
cut_off_seed = refl

cut_off_down :
    (after (set_source_height (tenthousandths_of (codes "2")) settings)
    (0x00 ∷ 0x00 ∷ 0x01 ∷ 0xFF ∷ 0x05 ∷ 0x00 ∷ 0x02 ∷ 0x00 ∷ 0x00 ∷ 0x01 ∷ 0xAA ∷ []) (start [])).cursor.y
    ≡ pos 948
unfolding items raster_row deltas replacements laid_over
cut_off_down = refl

-- a white seed row between two blocks: what is repeated is white
white_between :
    (after settings (0x00 ∷ 0x00 ∷ 0x01 ∷ 0xFF ∷ 0x04 ∷ 0x00 ∷ 0x00 ∷ 0x05 ∷ 0x00 ∷ 0x01 ∷ []) (start [])).graphics
    ≡ Some (record { left = 0; rows = 2; seed = [] })
unfolding items raster_row deltas replacements laid_over
white_between = refl

-- no data has no row: nothing changes, also where the seed row is not white
no_data : after settings [] (start (0xC3 ∷ [])) ≡ start (0xC3 ∷ [])
unfolding items
no_data = refl

-- what has a row: not no data, counts of 0 and an unknown command, but an empty row and a row of no data
have_rows : map (λ «data». takes_rows settings «data» (on []))
    ([] ∷ (0x04 ∷ 0x00 ∷ 0x00 ∷ []) ∷ (0x05 ∷ 0x00 ∷ 0x00 ∷ []) ∷ (0x06 ∷ 0x00 ∷ 0x01 ∷ 0xFF ∷ []) ∷ (0x04 ∷ 0x00 ∷ 0x01 ∷ []) ∷ (0x02 ∷ 0x00 ∷ 0x00 ∷ []) ∷ [])
    ≡ false ∷ false ∷ false ∷ false ∷ true ∷ true ∷ []
unfolding items
have_rows = refl

-- a count of 0 alone makes the seed row white, and is no row
white_alone : passed settings (0x05 ∷ 0x00 ∷ 0x00 ∷ []) (on (0xC3 ∷ [])) ≡ on []
unfolding items
white_alone = refl
