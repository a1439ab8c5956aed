-- The definitions of P4 files.
pub mod Answer
pub mod Blank
pub mod Faults
pub mod File
pub mod Fuse
pub mod Header
pub mod Reading
pub mod Spelling
