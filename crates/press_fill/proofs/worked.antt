-- Worked fills.
pub mod Fills
