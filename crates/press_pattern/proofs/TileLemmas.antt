-- The lines and dots of tiles.
use Rattle.std.proofs.Common.{◌≡◌, ℕ, ◌+◌, ◌-◌, ◌*◌, ◌%◌, ◌≤◌, false, take, drop, ◌∙◌, arith}
use Rattle.std.proofs.Math.Nat.{mod-lt}
use Rattle.press_bits.specs.Mark.{row_dot}
use Rattle.press_bits.specs.Lines.{bytes_per_line}
use Rattle.press_bits.proofs.LineLemmas.{row_dot-slice}
use Rattle.press_pattern.specs.Tiling.{Tiling, IsWhiteTile, tile_row, tile_dot}

-- the line that a slice of the rows is
pub tile_row-slice : (t : Tiling) (y line b : ℕ) → line ≡ y % t.height → b ≡ bytes_per_line t.width
    → take (line * b + b - line * b) (drop (line * b) t.rows) ≡ tile_row t y
unfolding tile_row
tile_row-slice t y line b is_line is_b = λ i.
    let n = is_line i * is_b i in take (n + is_b i - n) (drop n t.rows)

-- a tile of whose lines no bit is set
pub white_tile : (t : Tiling) → 1 ≤ t.width → ((i : ℕ) → row_dot t.rows i ≡ false) → IsWhiteTile t
unfolding tile_row tile_dot
white_tile t some white a b =
    row_dot-slice t.rows (b % t.height * bytes_per_line t.width)
    (b % t.height * bytes_per_line t.width + bytes_per_line t.width - b % t.height * bytes_per_line t.width) (a % t.width)
    (omega (arith, mod-lt a some))
    ∙ white (8 * (b % t.height * bytes_per_line t.width) + a % t.width)
