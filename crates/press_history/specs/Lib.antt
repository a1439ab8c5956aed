-- Runs of events of a press: what was handed out under each number.
pub mod History
pub mod RunLaws
pub mod Runs
