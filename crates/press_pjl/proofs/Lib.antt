-- The lemmas on the job language.
pub mod NumberLemmas
pub mod worked
