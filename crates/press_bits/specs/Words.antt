-- Sixty-four dots in a number (PCL 5 Printer Language Technical Reference Manual, "Raster Graphics", the bits of a raster row).
use Rattle.std.specs.Prelude.{ℕ, ◌-◌, ◌==◌, Bool}
use Rattle.std.specs.Int.{bit_at}

-- Dot j of the sixty-four of a word: the most significant bit is the leftmost dot, and 1 is black.
unfoldable pub word_dot : ℕ → ℕ → Bool
word_dot word j = bit_at word (63 - j) == 1
