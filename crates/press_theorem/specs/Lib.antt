-- The definitions of what the theorem of the press says.
pub mod Events
pub mod Tickets
