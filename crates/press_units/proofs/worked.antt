-- Worked rows.
pub mod Fields
