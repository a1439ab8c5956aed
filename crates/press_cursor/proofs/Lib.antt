-- The worked rows of the cursor.
pub mod worked
