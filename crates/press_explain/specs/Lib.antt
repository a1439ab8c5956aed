-- The definitions of what is said of a stream, command by command.
pub mod Explained
pub mod Reading
pub mod Remarks
pub mod Standing
pub mod Titles
