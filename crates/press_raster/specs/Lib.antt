-- The definitions of raster graphics.
pub mod Settings
pub mod Graphics
pub mod Mark
pub mod Transfer
pub mod Rows
pub mod Across
pub mod Drawing
pub mod Widening
