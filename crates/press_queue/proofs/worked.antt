-- Worked rows.
pub mod Queue
