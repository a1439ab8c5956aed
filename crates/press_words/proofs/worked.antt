-- Worked rows.
pub mod Words
