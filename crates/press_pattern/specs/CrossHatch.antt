-- The cross-hatch patterns (PCL 5 Printer Language Technical Reference Manual, "The PCL Print Model", cross-hatch patterns).
-- The tiles are this profile's: 16 dots wide, 16 lines high.
use Rattle.std.specs.Prelude.{ℕ, ◌+◌, Bool, ◌||◌, ◌==◌, if◌then◌else◌, Option, Some, None}
use Rattle.press_pattern.specs.Tiling.{Tiling, tiling_where}

-- Where lines run: whether the dot at this column of this row of the tile is black.
abbrev pub horizontal : (column row : ℕ) → Bool
horizontal column row = row == 0

abbrev pub vertical : (column row : ℕ) → Bool
vertical column row = column == 0

abbrev pub rising : (column row : ℕ) → Bool
rising column row = column + row == 15

abbrev pub falling : (column row : ℕ) → Bool
falling column row = column == row

abbrev pub square_grid : (column row : ℕ) → Bool
square_grid column row = horizontal column row || vertical column row

abbrev pub diagonal_grid : (column row : ℕ) → Bool
diagonal_grid column row = rising column row || falling column row

-- The tile whose dots are black where the rule says so.
abbrev pub hatch : (ℕ → ℕ → Bool) → Option Tiling
hatch rule = Some (tiling_where 16 16 rule)

-- The tile of cross-hatch pattern 1 to 6. There are no others.
abbrev pub cross_hatch : ℕ → Option Tiling
cross_hatch number =
    if number == 1 then hatch horizontal
    else if number == 2 then hatch vertical
    else if number == 3 then hatch rising
    else if number == 4 then hatch falling
    else if number == 5 then hatch square_grid
    else if number == 6 then hatch diagonal_grid
    else None
