-- Worked rows.
mod Remarks
