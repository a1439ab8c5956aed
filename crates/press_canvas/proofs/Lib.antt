-- The lemmas on pages that are turned.
pub mod TurnedLemmas
pub mod BlockLemmas
pub mod LineLemmas
pub mod FrameLemmas
mod CatchLemmas
pub mod ColumnLemmas
mod StripLemmas
mod DotsLemmas
pub mod worked
