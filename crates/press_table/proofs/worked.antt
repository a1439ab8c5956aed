-- Worked rows.
pub mod Rectangles
pub mod Refusals
pub mod RowLines
