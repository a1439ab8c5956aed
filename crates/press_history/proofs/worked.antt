-- Worked rows.
pub mod History
