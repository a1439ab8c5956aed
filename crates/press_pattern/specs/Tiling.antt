-- Tiles: what a pattern repeats over the page (PCL 5 Printer Language Technical Reference Manual, "The PCL Print Model").
use Rattle.std.specs.Prelude.{◌≡◌, ℕ, ◌+◌, ◌*◌, ◌/◌, ◌%◌, ◌≤◌, Bool, false, ◌&&◌, nat_lt, if◌then◌else◌, List, map, length, slice_range, refl}
use Rattle.std.specs.List.{fold, range_with_len}
use Rattle.std.specs.Coded.{Coded, code_by, coded×, coded_ℕ, coded_list}
use Rattle.press_bits.specs.Mark.{Row, row_dot}
use Rattle.press_bits.specs.Lines.{bytes_per_line}

-- A tile: how many dots wide and how many lines high it is, and its lines from the top, each from a new byte on.
pub record Tiling : Type 0 where
  pub width : ℕ
  pub height : ℕ
  pub rows : List ℕ

-- A tile is stored as its two sizes and its bytes.
abbrev pub tiling_code : Coded Tiling
tiling_code =
    code_by (ℕ × (ℕ × List ℕ)) (coded× coded_ℕ (coded× coded_ℕ (coded_list coded_ℕ)))
    (λ t. (t.width, (t.height, t.rows)))
    (λ s. record { width = s.0; height = s.1.0; rows = s.1.1 })
    (λ _. refl)

-- The bytes that the tile has for line b of the frame: tiles follow one another downwards from line 0 on.
unfoldable pub tile_row : Tiling → ℕ → List ℕ
tile_row tile b =
    let bytes = bytes_per_line tile.width in
    let start = b % tile.height * bytes in
    slice_range tile.rows start (start + bytes)

-- and the row of them
abbrev pub tile_line : Tiling → (line : ℕ) → Row
tile_line tile line = record { bits = tile_row tile line; dots = tile.width }

-- The pattern dot of the frame dot at column a of line b, black where true: the tile's at (a mod width, b mod height).
unfoldable pub tile_dot : Tiling → ℕ → ℕ → Bool
tile_dot tile a b = row_dot (tile_row tile b) (a % tile.width)

-- A tile without a black dot.
abbrev pub IsWhiteTile : Tiling → Type 0
IsWhiteTile tile = (a b : ℕ) → tile_dot tile a b ≡ false

-- The byte of eight dots that are black where the rule says so, dot 0 the most significant bit.
unfoldable pub byte_where : (ℕ → Bool) → ℕ
byte_where rule = fold (λ byte j. byte * 2 + (if rule j then 1 else 0)) 0 (range_with_len 0 8)

-- The dots of a line from this column on, white past the width.
abbrev pub dots_from : (width : ℕ) → (ℕ → ℕ → Bool) → (first line : ℕ) → ℕ → Bool
dots_from width rule first line j = nat_lt (first + j) width && rule (first + j) line

-- The tile of this size whose dots are black where the rule, of column and line, says so; bits past the last dot of a line are white.
unfoldable pub tiling_where : (width height : ℕ) → (ℕ → ℕ → Bool) → Tiling
tiling_where width height rule = record {
  width = width;
  height = height;
  rows = map (λ i. byte_where (dots_from width rule (8 * (i % bytes_per_line width)) (i / bytes_per_line width)))
      (range_with_len 0 (height * bytes_per_line width));
}

-- There are dots both ways, and bytes for each line.
pub record HasLines (width height : ℕ) (rows : List ℕ) : Type 0 where
  pub some_width : 1 ≤ width
  pub some_height : 1 ≤ height
  pub whole : length rows ≡ height * bytes_per_line width
