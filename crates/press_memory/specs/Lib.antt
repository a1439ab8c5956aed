-- What the library answers, by what the program writes.
pub mod Answers
pub mod Faults
pub mod Rooms
pub mod Session
pub mod Settings
pub mod Written
