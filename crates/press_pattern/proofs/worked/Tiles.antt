-- Worked tiles, computed: shadings at the ends of their ranges, cross-hatches, the data of patterns.
use Rattle.std.proofs.Common.{◌≡◌, ℕ, true, false, [], ◌∷◌, List, Option, Some, None, refl}
use Rattle.press_pattern.specs.Shading.{shading}
use Rattle.press_pattern.specs.CrossHatch.{cross_hatch}
use Rattle.press_bits.specs.Mark.{byte_dot, row_dot}
use Rattle.press_pattern.specs.Tiling.{Tiling, tile_dot, tile_row}
use Rattle.press_pattern.specs.UserData.{has_header, has_rows, tile_in}
use Rattle.press_pattern.specs.Store.{UserPatterns, tile_of}
use Rattle.press_pattern.specs.Brush.{brush_of}
use Rattle.press_pattern.specs.declared.pattern.PatternKind.TheVariants as kinds

-- a tile of eight lines, the even ones so and the odd ones so
abbrev by_twos : (even odd : ℕ) → Option Tiling
by_twos even odd = Some (record { width = 8; height = 8; rows = even ∷ odd ∷ even ∷ odd ∷ even ∷ odd ∷ even ∷ odd ∷ [] })

-- ---- shadings: 21 to 35 and 36 to 55 per cent; there is none of 0 and of 101

pub none_of_0 : shading 0 ≡ None
none_of_0 = refl

pub first_of_21_to_35 : shading 21 ≡ by_twos 0xAA 0
first_of_21_to_35 = refl

pub last_of_21_to_35 : shading 35 ≡ by_twos 0xAA 0
last_of_21_to_35 = refl

pub first_of_36_to_55 : shading 36 ≡ by_twos 0xAA 0x55
first_of_36_to_55 = refl

pub last_of_36_to_55 : shading 55 ≡ by_twos 0xAA 0x55
last_of_36_to_55 = refl

pub all_of_100 : shading 100 ≡ by_twos 0xFF 0xFF
all_of_100 = refl

pub none_of_101 : shading 101 ≡ None
none_of_101 = refl

-- ---- half of the dots: ESC*c50G ESC*p0x0Y ESC*c4a1b2P marks the dots 76 and 78 of line 150

abbrev half : Tiling
half = record { width = 8; height = 8; rows = 0xAA ∷ 0x55 ∷ 0xAA ∷ 0x55 ∷ 0xAA ∷ 0x55 ∷ 0xAA ∷ 0x55 ∷ [] }

pub dot_75_of_150 : tile_dot half 75 150 ≡ false
unfolding tile_dot tile_row row_dot byte_dot
dot_75_of_150 = refl

pub dot_76_of_150 : tile_dot half 76 150 ≡ true
unfolding tile_dot tile_row row_dot byte_dot
dot_76_of_150 = refl

pub dot_77_of_150 : tile_dot half 77 150 ≡ false
unfolding tile_dot tile_row row_dot byte_dot
dot_77_of_150 = refl

pub dot_78_of_150 : tile_dot half 78 150 ≡ true
unfolding tile_dot tile_row row_dot byte_dot
dot_78_of_150 = refl

-- ---- cross-hatches: six of them

pub no_hatch_0 : cross_hatch 0 ≡ None
no_hatch_0 = refl

pub no_hatch_7 : cross_hatch 7 ≡ None
no_hatch_7 = refl

-- the data of a pattern of ten dots in one line
abbrev ten_dots : List ℕ
ten_dots = 0 ∷ 0 ∷ 1 ∷ 0 ∷ 0 ∷ 1 ∷ 0 ∷ 10 ∷ 0xFF ∷ 0xC0 ∷ []

pub its_header : has_header ten_dots ≡ true
its_header = refl

pub its_rows : has_rows ten_dots ≡ true
its_rows = refl

pub its_tile : tile_in ten_dots ≡ record { width = 10; height = 1; rows = 0xFF ∷ 0xC0 ∷ [] }
its_tile = refl

-- without its last byte; in format 20; of no line
pub short : has_rows (0 ∷ 0 ∷ 1 ∷ 0 ∷ 0 ∷ 1 ∷ 0 ∷ 10 ∷ 0xFF ∷ []) ≡ false
short = refl

pub other_format : has_header (20 ∷ 0 ∷ 1 ∷ 0 ∷ 0 ∷ 1 ∷ 0 ∷ 10 ∷ 0xFF ∷ 0xC0 ∷ []) ≡ false
other_format = refl

pub no_line : has_header (0 ∷ 0 ∷ 1 ∷ 0 ∷ 0 ∷ 0 ∷ 0 ∷ 10 ∷ []) ≡ false
no_line = refl

-- ---- solid black is there under any ID, and so is solid white

pub black_of_any : (patterns : UserPatterns) (id : ℕ) → tile_of patterns kinds.Black id ≡ Some (record { width = 8; height = 1; rows = 0xFF ∷ [] })
black_of_any patterns id = refl

pub white_is_opaque : (patterns : UserPatterns) → brush_of patterns (record { kind = kinds.White; id = 0 }) (record { source_opaque = true; pattern_opaque = false })
    ≡ Some (record { tile = record { width = 8; height = 1; rows = 0 ∷ [] }; mode = record { source_opaque = true; pattern_opaque = true } })
white_is_opaque patterns = refl
