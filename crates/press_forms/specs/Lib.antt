-- Texts, traces and pages of streams, and sessions with a debugger.
pub mod Assembly
pub mod Causes
pub mod DebuggerLines
pub mod Debugging
pub mod Ends
pub mod Faults
pub mod Paging
