-- The lemmas on rectangle fills.
mod FillLemmas
pub mod worked
