-- The definitions of the cursor: its moves within the logical page, and the stack of pushed positions.
pub mod Bounds
pub mod Cursor
pub mod CursorState
pub mod Stack
