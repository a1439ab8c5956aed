-- The worked rows of the page environment.
pub mod worked
