-- The bytes of the cross-hatch tiles.
use Rattle.std.proofs.Common.{◌≡◌, [], ◌∷◌, Some, refl}
use Rattle.press_pattern.specs.Tiling.{tiling_where, byte_where}
use Rattle.press_pattern.specs.CrossHatch.{hatch, horizontal, vertical, rising, falling, square_grid, diagonal_grid}

pub horizontal_is : Some (record {
  width = 16;
  height = 16;
  rows =
      255 ∷ 255 ∷ 0 ∷ 0 ∷ 0 ∷ 0 ∷ 0 ∷ 0 ∷ 0 ∷ 0 ∷ 0 ∷ 0 ∷ 0 ∷ 0 ∷ 0 ∷ 0 ∷ 0 ∷ 0 ∷ 0 ∷ 0 ∷ 0 ∷ 0 ∷ 0 ∷ 0 ∷ 0 ∷ 0 ∷ 0 ∷ 0 ∷ 0 ∷ 0 ∷ 0 ∷ 0
      ∷ [];
})
    ≡ hatch horizontal
unfolding tiling_where byte_where
horizontal_is = refl

pub vertical_is : Some (record {
  width = 16;
  height = 16;
  rows =
      128 ∷ 0 ∷ 128 ∷ 0 ∷ 128 ∷ 0 ∷ 128 ∷ 0 ∷ 128 ∷ 0 ∷ 128 ∷ 0 ∷ 128 ∷ 0 ∷ 128 ∷ 0 ∷ 128 ∷ 0 ∷ 128 ∷ 0 ∷ 128 ∷ 0 ∷ 128 ∷ 0 ∷ 128 ∷ 0 ∷ 128
      ∷ 0 ∷ 128 ∷ 0 ∷ 128 ∷ 0 ∷ [];
})
    ≡ hatch vertical
unfolding tiling_where byte_where
vertical_is = refl

pub rising_is : Some (record {
  width = 16;
  height = 16;
  rows =
      0 ∷ 1 ∷ 0 ∷ 2 ∷ 0 ∷ 4 ∷ 0 ∷ 8 ∷ 0 ∷ 16 ∷ 0 ∷ 32 ∷ 0 ∷ 64 ∷ 0 ∷ 128 ∷ 1 ∷ 0 ∷ 2 ∷ 0 ∷ 4 ∷ 0 ∷ 8 ∷ 0 ∷ 16 ∷ 0 ∷ 32 ∷ 0 ∷ 64 ∷ 0 ∷ 128
      ∷ 0 ∷ [];
})
    ≡ hatch rising
unfolding tiling_where byte_where
rising_is = refl

pub falling_is : Some (record {
  width = 16;
  height = 16;
  rows =
      128 ∷ 0 ∷ 64 ∷ 0 ∷ 32 ∷ 0 ∷ 16 ∷ 0 ∷ 8 ∷ 0 ∷ 4 ∷ 0 ∷ 2 ∷ 0 ∷ 1 ∷ 0 ∷ 0 ∷ 128 ∷ 0 ∷ 64 ∷ 0 ∷ 32 ∷ 0 ∷ 16 ∷ 0 ∷ 8 ∷ 0 ∷ 4 ∷ 0 ∷ 2 ∷ 0
      ∷ 1 ∷ [];
})
    ≡ hatch falling
unfolding tiling_where byte_where
falling_is = refl

pub square_grid_is : Some (record {
  width = 16;
  height = 16;
  rows =
      255 ∷ 255 ∷ 128 ∷ 0 ∷ 128 ∷ 0 ∷ 128 ∷ 0 ∷ 128 ∷ 0 ∷ 128 ∷ 0 ∷ 128 ∷ 0 ∷ 128 ∷ 0 ∷ 128 ∷ 0 ∷ 128 ∷ 0 ∷ 128 ∷ 0 ∷ 128 ∷ 0 ∷ 128 ∷ 0
      ∷ 128 ∷ 0 ∷ 128 ∷ 0 ∷ 128 ∷ 0 ∷ [];
})
    ≡ hatch square_grid
unfolding tiling_where byte_where
square_grid_is = refl

pub diagonal_grid_is : Some (record {
  width = 16;
  height = 16;
  rows =
      128 ∷ 1 ∷ 64 ∷ 2 ∷ 32 ∷ 4 ∷ 16 ∷ 8 ∷ 8 ∷ 16 ∷ 4 ∷ 32 ∷ 2 ∷ 64 ∷ 1 ∷ 128 ∷ 1 ∷ 128 ∷ 2 ∷ 64 ∷ 4 ∷ 32 ∷ 8 ∷ 16 ∷ 16 ∷ 8 ∷ 32 ∷ 4 ∷ 64
      ∷ 2 ∷ 128 ∷ 1 ∷ [];
})
    ≡ hatch diagonal_grid
unfolding tiling_where byte_where
diagonal_grid_is = refl
