-- Worked states of the scanner.
pub mod Buffers
