-- Worked rows.
pub mod Streams
