-- Worked raster rows, computed on the definitions.
use Rattle.std.proofs.Common.{◌≡◌, ℕ, ◌+◌, ◌*◌, ◌/◌, Bool, pos, neg_ℤ, true, false, [], ◌∷◌, Option, Some, None, map, refl}
use Rattle.std.specs.Prelude.{codes}
use Rattle.press_units.specs.Value.{tenthousandths_of}
use Rattle.press_units.specs.declared.position.Resolution.TheVariants.{Dpi300, Dpi600}
use Rattle.press_bits.specs.DotRule.{both_transparent}
use Rattle.press_bits.specs.Mark.{row_dot, byte_dot}
use Rattle.press_bits.specs.Page.{blank}
use Rattle.press_page.specs.Environment.{factory, reset_environment}
use Rattle.press_pattern.specs.Brush.{black_brush}
use Rattle.press_rows.specs.DeltaRow.{deltas, replacements, laid_over}
use Rattle.press_rows.specs.Row.{raster_row}
use Rattle.press_rows.specs.declared.compression.Method.TheVariants.{Unencoded, DeltaRow}
use Rattle.press_raster.specs.Graphics.{RasterGraphics, started, moved_down}
use Rattle.press_raster.specs.Mark.{strip_source}
use Rattle.press_raster.specs.Settings.{initial, raster_resolutions, resolution_of, row_height, set_resolution, set_source_width, set_source_height, set_method, dot_size}
use Rattle.press_raster.specs.Transfer.{row_corner, row_of_data, row_dots, transfer_mark, transferred}
use Rattle.press_raster.specs.declared.raster.RowPlace.{RowPlace}
use Rattle.press_raster.specs.declared.settings.RasterResolution.TheVariants.{Dpi75, Dpi100, Dpi150, Dpi200}
use Rattle.press_raster.specs.declared.settings.RasterResolution.TheVariants as rows
use Rattle.press_raster.specs.declared.settings.RasterSettings.{RasterSettings}

-- the home of Letter in portrait, on the left edge of the logical page
abbrev home : RowPlace
home = record { environment = reset_environment factory; y = pos 900 }

-- ESC*t75R ESC*r8S
abbrev eight_wide : RasterSettings
eight_wide = set_source_width (tenthousandths_of (codes "8")) (set_resolution Dpi300 (tenthousandths_of (codes "75")) initial)

-- ESC*r0A
abbrev on : RasterGraphics
on = record { left = 0; rows = 0; seed = [] }

-- a row of eight dots, of which the first is black
row_of_data_80 : row_of_data home eight_wide Unencoded (0x80 ∷ []) on ≡ record { bits = 0x80 ∷ []; dots = 8 }
unfolding raster_row
row_of_data_80 = refl

home_corner : row_corner home 0 ≡ record { x = 75; y = pos 187 }
home_corner = refl

four_dots : dot_size eight_wide.resolution Dpi300 ≡ 4
four_dots = refl

-- It is black in columns 75 to 78 of lines 187 to 190, white in columns 79 to 106, and has no dot elsewhere.
abbrev source : ℕ → ℕ → Option Bool
source = strip_source 75 187 (4 * 8) 4 (λ i. row_dot (0x80 ∷ []) (i / 4))

left_above : source 75 187 ≡ Some true
unfolding strip_source row_dot byte_dot
left_above = refl

right_below : source 78 190 ≡ Some true
unfolding strip_source row_dot byte_dot
right_below = refl

white_right : source 79 190 ≡ Some false
unfolding strip_source row_dot byte_dot
white_right = refl

last_white : source 106 187 ≡ Some false
unfolding strip_source row_dot byte_dot
last_white = refl

outside : source 74 187 ∷ source 107 187 ∷ source 75 186 ∷ source 75 191 ∷ [] ≡ None ∷ None ∷ None ∷ None ∷ []
unfolding strip_source
outside = refl

-- The same row that begins so many lines above the page: its part on the page is painted.
abbrev above : (lines : ℕ) → RowPlace
above lines = record { environment = reset_environment factory; y = neg_ℤ (pos (3600 + 24 * lines)) }

corner_above : row_corner (above 2) 0 ≡ record { x = 75; y = neg_ℤ (pos 2) }
corner_above = refl

abbrev source_from : RowPlace → ℕ → ℕ → Option Bool
source_from place = (transfer_mark place eight_wide (black_brush both_transparent) Unencoded (0x80 ∷ []) on (blank 2550 3300)).source

half_above : map (source_from (above 2) 75) (0 ∷ 1 ∷ 2 ∷ 3 ∷ []) ≡ Some true ∷ Some true ∷ None ∷ None ∷ []
unfolding strip_source row_dot byte_dot raster_row
half_above = refl

wholly_above : map (λ lines. source_from (above lines) 75 0) (0 ∷ 3 ∷ 4 ∷ 5 ∷ []) ≡ Some true ∷ Some true ∷ None ∷ None ∷ []
unfolding strip_source row_dot byte_dot raster_row
wholly_above = refl

-- without a source width a row ends at the right edge of the logical page: (2550 - 150) / 4 dots
whole_width : row_dots home initial 0 ≡ 600
whole_width = refl

-- from a left edge 100 positions on: (57600 - 100) * 75 / 7200, cut
narrower : row_dots home initial 100 ≡ 598
narrower = refl

-- the resolutions of rows on a page of 300 dots per inch, and on one of 600
on_coarse_pages : map (λ number. resolution_of Dpi300 (pos number)) (75 ∷ 100 ∷ 150 ∷ 200 ∷ 300 ∷ 600 ∷ 0 ∷ [])
    ≡ Some Dpi75 ∷ Some Dpi100 ∷ Some Dpi150 ∷ None ∷ Some rows.Dpi300 ∷ None ∷ None ∷ []
on_coarse_pages = refl

on_fine_pages : map (λ number. resolution_of Dpi600 (pos number)) (75 ∷ 100 ∷ 150 ∷ 200 ∷ 300 ∷ 600 ∷ 0 ∷ 50 ∷ 120 ∷ 1200 ∷ [])
    ≡ Some Dpi75 ∷ Some Dpi100 ∷ Some Dpi150 ∷ Some Dpi200 ∷ Some rows.Dpi300 ∷ Some rows.Dpi600 ∷ None ∷ None ∷ None ∷ None ∷ []
on_fine_pages = refl

coarse_dots : map (λ resolution. dot_size resolution Dpi300) (Dpi75 ∷ Dpi100 ∷ Dpi150 ∷ rows.Dpi300 ∷ []) ≡ 4 ∷ 3 ∷ 2 ∷ 1 ∷ []
coarse_dots = refl

fine_dots : map (λ resolution. dot_size resolution Dpi600) raster_resolutions ≡ 8 ∷ 6 ∷ 4 ∷ 3 ∷ 2 ∷ 1 ∷ []
fine_dots = refl

heights : map row_height raster_resolutions ≡ 96 ∷ 72 ∷ 48 ∷ 36 ∷ 24 ∷ 12 ∷ []
heights = refl

-- the same home on a page of 600 dots per inch; ESC*t200R, and a row as wide as the logical page
abbrev fine_home : RowPlace
fine_home = record { environment = reset_environment (record factory { resolution = Dpi600 }); y = pos 900 }

fine_corner : row_corner fine_home 0 ≡ record { x = 150; y = pos 375 }
fine_corner = refl

fine_width : map (λ n. row_dots fine_home (set_resolution Dpi600 (tenthousandths_of n) initial) 0) (codes "75" ∷ codes "200" ∷ codes "600" ∷ []) ≡ 600 ∷ 1600 ∷ 4800 ∷ []
fine_width = refl

-- method 3 goes on from the seed, which a row of another method set: of F0 0F the second byte is replaced by AA
abbrev sixteen_wide : RasterSettings
sixteen_wide = set_source_width (tenthousandths_of (codes "16")) initial

abbrev by_delta_rows : RasterSettings
by_delta_rows = set_method (tenthousandths_of (codes "3")) sixteen_wide

delta_after_plain : transferred home by_delta_rows DeltaRow (1 ∷ 0xAA ∷ []) (transferred home sixteen_wide Unencoded (0xF0 ∷ 0x0F ∷ []) (started 7 None))
    ≡ Some (record { left = 7; rows = 2; seed = 0xF0 ∷ 0xAA ∷ [] })
unfolding raster_row deltas replacements laid_over
delta_after_plain = refl

-- ESC*b1Y between them: the seed is white
delta_after_skip : transferred home by_delta_rows DeltaRow (1 ∷ 0xAA ∷ []) (moved_down 1 (transferred home sixteen_wide Unencoded (0xF0 ∷ 0x0F ∷ []) (started 7 None)))
    ≡ Some (record { left = 7; rows = 3; seed = 0x00 ∷ 0xAA ∷ [] })
unfolding raster_row deltas replacements laid_over
delta_after_skip = refl

-- no data of method 3 repeats the row, and of method 0 it is white
repeated_row : transferred home by_delta_rows DeltaRow [] (transferred home sixteen_wide Unencoded (0xF0 ∷ 0x0F ∷ []) (started 7 None))
    ≡ Some (record { left = 7; rows = 2; seed = 0xF0 ∷ 0x0F ∷ [] })
unfolding raster_row deltas replacements laid_over
repeated_row = refl

white_row : transferred home sixteen_wide Unencoded [] (transferred home sixteen_wide Unencoded (0xF0 ∷ 0x0F ∷ []) (started 7 None))
    ≡ Some (record { left = 7; rows = 2; seed = [] })
unfolding raster_row
white_row = refl

-- ESC*r1T: the second row has no effect
abbrev one_high : RasterSettings
one_high = set_source_height (tenthousandths_of (codes "1")) sixteen_wide

past_the_height : transferred home one_high Unencoded (0xFF ∷ []) (transferred home one_high Unencoded (0xF0 ∷ 0x0F ∷ []) (started 7 None))
    ≡ Some (record { left = 7; rows = 1; seed = 0xF0 ∷ 0x0F ∷ [] })
unfolding raster_row
past_the_height = refl

-- the count of rows stays at 65,535
counted : moved_down 65535 (started 0 None) ≡ moved_down 1 (moved_down 65535 (started 0 None))
counted = refl
