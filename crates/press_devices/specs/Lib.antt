-- Devices: reads, writes, when they fail, and what is told where they do.
pub mod Failing
pub mod Faults
pub mod Reading
pub mod Telling
pub mod Watching
pub mod Writing
