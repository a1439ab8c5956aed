-- The store of macros, and the definition that is open.
pub mod Macros
pub mod Coding
