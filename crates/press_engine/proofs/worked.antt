-- Worked rows.
pub mod Folds
pub mod Jobs
pub mod Macros
pub mod Streams
