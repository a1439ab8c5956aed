-- Worked tiles.
pub mod Tiles
