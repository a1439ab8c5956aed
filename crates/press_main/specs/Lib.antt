-- What the program does for its words.
pub mod Program
pub mod Tables
