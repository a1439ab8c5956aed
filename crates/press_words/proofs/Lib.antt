-- The lemmas on words, numbers and defaults.
pub mod DefaultsLemmas
mod NumberLemmas
mod WordsLemmas
pub mod worked
