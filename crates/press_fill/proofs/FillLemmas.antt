-- What a fill leaves.
use Rattle.std.proofs.Common.{◌≡◌, ℕ, ◌+◌, ◌*◌, ◌/◌, ◌%◌, true, [], ◌∷◌, get_or, refl, ap, ◌∙◌, arith}
use Rattle.std.specs.Prelude.{slice_range}
use Rattle.press_bits.specs.Mark.{repeated, row_dot, byte_dot}
use Rattle.press_bits.proofs.ByteLemmas.{byte_dot-ones}
use Rattle.press_pattern.specs.Solid.{solid_black}
use Rattle.press_pattern.specs.Tiling.{Tiling, tile_dot, tile_row}

-- a row of a tile, repeated, has the tile's dots
pub repeated-tile_row : (tile : Tiling) (column line : ℕ) →
    repeated (record { bits = tile_row tile line; dots = tile.width }) column ≡ tile_dot tile column line
unfolding repeated tile_dot
repeated-tile_row tile column line = refl

-- each dot of solid black is black
pub tile_dot-solid_black : (column line : ℕ) → tile_dot solid_black column line ≡ true
unfolding tile_dot tile_row row_dot
tile_dot-solid_black column line =
    let start : line % 1 * 1 ≡ 0 = omega arith in
    let first : column % 8 / 8 ≡ 0 = omega arith in
    ap (λ n. byte_dot (get_or (slice_range (255 ∷ []) n (n + 1)) (column % 8 / 8) 0) (column % 8 % 8)) start
    ∙ ap (λ n. byte_dot (get_or (255 ∷ []) n 0) (column % 8 % 8)) first
    ∙ byte_dot-ones (column % 8 % 8)
