-- Worked rows.
pub mod Lines
pub mod Spelled
pub mod Traces
