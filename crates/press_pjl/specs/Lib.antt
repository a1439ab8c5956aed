-- The definitions of the job language: its variables, lines and replies.
pub mod Names
pub mod Variables
pub mod Replies
pub mod Lines
