-- Worked names and outputs.
pub mod Names
