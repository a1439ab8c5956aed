-- Worked lines of rows of raster graphics, computed on the definitions.
use Rattle.std.proofs.Common.{◌≡◌, [], ◌∷◌, Some, None, map, neg_ℤ, pos, refl}
use Rattle.press_page.specs.declared.environment.PageEnv.{PageEnv}
use Rattle.press_page.specs.declared.media.Orientation.TheVariants.{Landscape}
use Rattle.press_table.specs.Outcome.{power_on_state}
use Rattle.press_table.specs.PageKept.{row_line}

-- the environment after power on: an upright page of 3,300 lines of 24 positions, the first 150 of them above the top margin
abbrev factory : PageEnv
factory = power_on_state.environment

-- at the top margin, a position above it, at the upper edge of the page, and above that
above_the_text : map (row_line factory) (pos 0 ∷ neg_ℤ (pos 1) ∷ neg_ℤ (pos 3600) ∷ neg_ℤ (pos 7200) ∷ [])
    ≡ Some 150 ∷ Some 149 ∷ Some 0 ∷ Some 0 ∷ []
above_the_text = refl

-- on the last line, at the lower edge, and below it
below_the_text : map (row_line factory) (pos 75599 ∷ pos 75600 ∷ pos 75601 ∷ []) ≡ Some 3299 ∷ Some 3300 ∷ None ∷ []
below_the_text = refl

-- the frame of a page that is turned has 2,550 lines: at the top margin, on the last line, at the lower edge, and below it
turned : map (row_line (record factory { page_setup = record factory.page_setup { orientation = Landscape } })) (pos 0 ∷ pos 57599 ∷ pos 57600 ∷ pos 57601 ∷ [])
    ≡ Some 150 ∷ Some 2549 ∷ Some 2550 ∷ None ∷ []
turned = refl
