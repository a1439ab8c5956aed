-- Worked rows.
mod Kinds
