-- Worked rows.
mod Jobs
