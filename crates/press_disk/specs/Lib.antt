-- Disks, and outputs that are files of them.
pub mod Disk
pub mod Kept
pub mod Parts
pub mod SystemNames
