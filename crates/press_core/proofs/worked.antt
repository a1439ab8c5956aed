-- Worked rows.
pub mod Engines
pub mod Messages
