-- The definitions of job tickets: which JSON texts are one, and what it asks for.
pub mod Faults
pub mod Inside
pub mod Members
pub mod Names
pub mod Pages
pub mod Parts
pub mod Reading
pub mod Ticket
