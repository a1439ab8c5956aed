-- Worked rows.
mod Blocks
mod Rows
