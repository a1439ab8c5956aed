-- The definitions of the rows of raster graphics under the compression methods, and of short data for a row.
pub mod RunLength
pub mod RunLengthEncoding
pub mod PackBits
pub mod PackBitsEncoding
pub mod DeltaRow
pub mod DeltaRowEncoding
pub mod Methods
pub mod Row
pub mod Blocks
pub mod BlocksInside
pub mod Encoding
