-- The solid patterns (PCL 5 Printer Language Technical Reference Manual, "The PCL Print Model").
use Rattle.std.specs.Prelude.{[], ◌∷◌}
use Rattle.press_pattern.specs.Tiling.{Tiling}

-- A line of eight black dots.
abbrev pub solid_black : Tiling
solid_black = record { width = 8; height = 1; rows = 0xFF ∷ [] }

-- A line of eight white dots.
abbrev pub solid_white : Tiling
solid_white = record { width = 8; height = 1; rows = 0x00 ∷ [] }
