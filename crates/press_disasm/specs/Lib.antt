-- The definitions of the assembly text of a stream.
pub mod Again
pub mod Disassembly
