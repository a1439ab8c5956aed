-- Lemmas on what the program does.
pub mod BehindLemmas
pub mod ProgramLemmas
