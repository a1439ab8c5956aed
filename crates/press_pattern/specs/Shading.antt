-- The shading patterns (PCL 5 Printer Language Technical Reference Manual, "The PCL Print Model", shading patterns).
-- The ranges and the tiles are this profile's.
use Rattle.std.specs.Prelude.{ℕ, Bool, ◌&&◌, nat_le, if◌then◌else◌, [], ◌∷◌, Option, Some, None}
use Rattle.press_pattern.specs.Tiling.{Tiling}

-- A tile of eight lines of eight dots, one byte each.
abbrev pub eight_lines : (a b c d e f g h : ℕ) → Option Tiling
eight_lines a b c d e f g h =
    Some (record { width = 8; height = 8; rows = a ∷ b ∷ c ∷ d ∷ e ∷ f ∷ g ∷ h ∷ [] })

-- Whether a number is one of these, the first and the last included.
abbrev pub is_in : (first last : ℕ) → ℕ → Bool
is_in first last n = nat_le first n && nat_le n last

-- The tile of a shading of so many per cent. There is none of 0 and of more than 100.
abbrev pub shading : ℕ → Option Tiling
shading percent =
    if is_in 1 2 percent then eight_lines 0x80 0x00 0x00 0x00 0x00 0x00 0x00 0x00
    else if is_in 3 10 percent then eight_lines 0x88 0x00 0x00 0x00 0x88 0x00 0x00 0x00
    else if is_in 11 20 percent then eight_lines 0x88 0x00 0x22 0x00 0x88 0x00 0x22 0x00
    else if is_in 21 35 percent then eight_lines 0xAA 0x00 0xAA 0x00 0xAA 0x00 0xAA 0x00
    else if is_in 36 55 percent then eight_lines 0xAA 0x55 0xAA 0x55 0xAA 0x55 0xAA 0x55
    else if is_in 56 80 percent then eight_lines 0xFF 0x55 0xFF 0x55 0xFF 0x55 0xFF 0x55
    else if is_in 81 99 percent then eight_lines 0x77 0xFF 0xDD 0xFF 0x77 0xFF 0xDD 0xFF
    else if is_in 100 100 percent then eight_lines 0xFF 0xFF 0xFF 0xFF 0xFF 0xFF 0xFF 0xFF
    else None
