-- Sessions: lines that are read, and what each is answered.
pub mod Ends
pub mod EventLines
pub mod Faults
pub mod Sessions
