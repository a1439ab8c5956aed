-- Worked rows.
pub mod Moves
