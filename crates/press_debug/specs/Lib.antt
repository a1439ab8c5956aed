-- The definitions of the debugger: its steps, and where it stops.
pub mod Breaks
pub mod Steps
pub mod Stops
pub mod Places
