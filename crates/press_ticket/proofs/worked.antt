-- Worked rows.
pub mod Tickets
