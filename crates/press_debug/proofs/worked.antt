-- Worked breakpoints.
pub mod Breakpoints
