-- Lemmas on devices.
pub mod WritesLemmas
