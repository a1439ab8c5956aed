-- The lemmas on the lines of a trace, and on pages that are rebuilt from them.
pub mod ArrayLemmas
pub mod SlotLemmas
pub mod TextLemmas
pub mod MemberLemmas
pub mod SpelledLemmas
pub mod SeenLemmas
pub mod SentLemmas
pub mod PageLemmas
pub mod PlaceLemmas
pub mod StepLemmas
pub mod Standing
pub mod Fewer
pub mod Chains
pub mod RunLemmas
pub mod Telling
pub mod RebuiltLemmas
pub mod worked
