-- The definitions of tiles, of the patterns that always exist, and of the store of user patterns.
pub mod Tiling
pub mod Faults
pub mod Solid
pub mod Shading
pub mod CrossHatch
pub mod UserData
pub mod Store
pub mod Brush
