-- Worked rows.
mod Blocks
pub mod Rows
