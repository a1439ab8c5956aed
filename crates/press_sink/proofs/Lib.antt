-- Lemmas on sinks and outputs.
pub mod FuseLemmas
pub mod OutputsLemmas
pub mod SendingLemmas
pub mod SideNameLemmas
pub mod TemplateLemmas
pub mod worked
