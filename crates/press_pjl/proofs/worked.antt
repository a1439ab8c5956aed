-- Worked rows.
pub mod Lines
