-- Worked rows.
pub mod Pages
pub mod Places
