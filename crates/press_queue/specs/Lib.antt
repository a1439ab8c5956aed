-- The definitions of the queue of a press: its entries, and what each queue command does to them.
pub mod Answers
pub mod Entries
pub mod EveryQueue
pub mod Inside
pub mod Legal
pub mod Priority
pub mod QueueLaw
pub mod Refusal
pub mod Rows
pub mod State
pub mod Status
pub mod View
