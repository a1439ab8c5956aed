-- The lemmas on the debugger: steps that are taken, and where they stop.
pub mod Tables
pub mod Taking
pub mod Faults
pub mod Over
pub mod Going
pub mod KindLemmas
pub mod PlaceLaws
pub mod worked
