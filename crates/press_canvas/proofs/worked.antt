-- Worked places of pages that are turned.
pub mod Turns
