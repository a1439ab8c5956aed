-- The lemmas on stores of things.
pub mod StoreLemmas
