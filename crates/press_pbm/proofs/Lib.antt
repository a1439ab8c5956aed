-- Lemmas on P4 files.
pub mod AnswerLaws
pub mod FileLemmas
pub mod HeaderLemmas
pub mod ReadingLemmas
pub mod ReadBack
pub mod RowsLemmas
pub mod LineLemmas
