-- Worked rows.
pub mod Dots
