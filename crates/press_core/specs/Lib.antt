-- The definitions of the press: messages, turns of its engines, and operators on one queue of jobs.
pub mod Work
pub mod Engines
pub mod World
pub mod Parameters
pub mod Messages
pub mod Response
pub mod Listings
pub mod Rows
pub mod Stops
pub mod Shown
pub mod TurnErrors
pub mod Turns
pub mod Events
pub mod Jobs
pub mod Inside
pub mod Handing
