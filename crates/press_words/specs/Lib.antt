-- The definitions of the words of a command line, and of what stands in front of a stream by its defaults.
pub mod Defaults
pub mod Lines
pub mod View
pub mod Words
