-- Worked rows.
pub mod Macros
