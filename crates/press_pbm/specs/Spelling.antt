-- The P4 file that a page is written as (Netpbm, the PBM format).
use Rattle.std.specs.Prelude.{ℕ, ◌+◌, ◌*◌, Bool, if◌then◌else◌, List, ◌++◌, map, codes, decimal}
use Rattle.std.specs.List.{fold, flat_map, range_with_len}
use Rattle.press_bits.specs.Page.{Page, black_at}
use Rattle.press_bits.specs.Lines.{bytes_per_line}

-- Eight dots as a byte: the leftmost is the most significant bit, and black is 1.
unfoldable pub byte_of_dots : (ℕ → Bool) → ℕ
byte_of_dots dots = fold (λ byte j. 2 * byte + (if dots j then 1 else 0)) 0 (range_with_len 0 8)

-- The bytes of a line, as many as its dots take. The dots right of the page are white, so the last byte is padded with zeros.
unfoldable pub line_bytes : Page → ℕ → List ℕ
line_bytes page y = map (λ i. byte_of_dots (λ j. black_at page (8 * i + j) y)) (range_with_len 0 (bytes_per_line page.width))

-- The header: `P4`, the width and the height in decimal, without a comment.
abbrev pub header_of : Page → List ℕ
header_of page = codes "P4\n" ++ (decimal page.width ++ (codes " " ++ (decimal page.height ++ codes "\n")))

-- The file: the header, and the lines from the top.
abbrev pub file_of : Page → List ℕ
file_of page = header_of page ++ flat_map (line_bytes page) (range_with_len 0 page.height)
