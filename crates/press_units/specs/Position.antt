-- Positions in 1/7200 inch (this profile's internal unit), and dots
-- (PCL 5 Printer Language Technical Reference Manual, cursor positioning and units).
use Rattle.std.specs.Prelude.{ℕ, ℤ, pos, ◌*ℤ◌, ◌/◌, int_div, List, [], ◌∷◌}
use Rattle.std.specs.Int.{int_div_euclid}
use Rattle.press_units.specs.Measure.{positions_per_inch}
use Rattle.press_units.specs.declared.position.Resolution.{Resolution}
use Rattle.press_units.specs.declared.position.Resolution.TheVariants.{Dpi300, Dpi600}

-- So many ten-thousandths of a distance, as a position: the product, the rest of the division dropped, towards zero.
-- The distance is a unit, a motion index or a length on a page, in positions.
abbrev pub position_of : ℤ → ℕ → ℤ
position_of tenthousandths distance = int_div (tenthousandths *ℤ pos distance) (pos 10000)

-- the resolutions of pages, the factory's first (this profile)
abbrev pub resolutions : List Resolution
resolutions = Dpi300 ∷ Dpi600 ∷ []

-- dots of an inch, and positions of a dot
abbrev pub dots_per_inch : Resolution → ℕ
dots_per_inch Dpi300 = 300
dots_per_inch Dpi600 = 600

abbrev pub positions_per_dot : Resolution → ℕ
positions_per_dot resolution = positions_per_inch / dots_per_inch resolution

-- The dot of a position: the greatest whole number of dots that is not past it (the divisor is positive, so the
-- quotient whose remainder is not negative is the floor).
abbrev pub dot_of : ℤ → Resolution → ℤ
dot_of position resolution = int_div_euclid position (pos (positions_per_dot resolution))
