-- The data of a user-defined pattern (PCL 5 Printer Language Technical Reference Manual, "The PCL Print Model", Define Pattern command).
use Rattle.std.specs.Prelude.{ℕ, ◌+◌, ◌*◌, Bool, ◌&&◌, ◌==◌, nat_le, List, length, take, drop, ◌∷◌, []}
use Rattle.std.specs.List.{starts_with}
use Rattle.byteorder.specs.Endian.{big_number}
use Rattle.press_bits.specs.Lines.{bytes_per_line}
use Rattle.press_pattern.specs.Tiling.{Tiling}

-- How many bytes the header has.
abbrev pub header_length : ℕ
header_length = 8

-- Height and width stand in bytes 4 and 5, and 6 and 7, the most significant byte first.
abbrev pub height_in : List ℕ → ℕ
height_in bytes = big_number 2 (drop 4 bytes)

abbrev pub width_in : List ℕ → ℕ
width_in bytes = big_number 2 (drop 6 bytes)

-- Whether a header stands first: format 0, continuation 0, encoding 1, the reserved byte 0, then height and width, neither 0.
abbrev pub has_header : List ℕ → Bool
has_header bytes =
    nat_le header_length (length bytes)
    && starts_with (λ a b. a == b) bytes (0 ∷ 0 ∷ 1 ∷ 0 ∷ [])
    && nat_le 1 (height_in bytes) && nat_le 1 (width_in bytes)

-- How many bytes the rows take that the header tells of, each from a new byte on.
abbrev pub rows_length : List ℕ → ℕ
rows_length bytes = height_in bytes * bytes_per_line (width_in bytes)

-- Whether so many bytes stand behind the header. More are ignored.
abbrev pub has_rows : List ℕ → Bool
has_rows bytes = nat_le (header_length + rows_length bytes) (length bytes)

-- The tile that data with header and rows stands for.
abbrev pub tile_in : List ℕ → Tiling
tile_in bytes = record {
  width = width_in bytes;
  height = height_in bytes;
  rows = take (rows_length bytes) (drop header_length bytes);
}
