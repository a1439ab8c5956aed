-- Worked rows of macros.
pub mod worked
