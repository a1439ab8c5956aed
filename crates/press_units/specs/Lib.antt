-- The definitions of values, units, positions and dots.
pub mod Ascii
pub mod Faults
pub mod Field
pub mod Limits
pub mod Measure
pub mod Position
pub mod Value
