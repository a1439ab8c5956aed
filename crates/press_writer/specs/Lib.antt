-- The job of a ticket, as a stream.
pub mod Faults
pub mod Fitting
pub mod Inside
pub mod Job
pub mod JobLaws
pub mod Left
pub mod Medium
pub mod Picture
pub mod Plan
pub mod Sequences
pub mod Sheets
pub mod Wanted
