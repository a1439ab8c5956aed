-- The lemmas on commands: how they are read, split and stored.
pub mod Reading
pub mod ByteTests
pub mod ReadWhole
pub mod ReadStep
pub mod ReadBroken
pub mod ReadLine
pub mod ReadHead
pub mod Heads
pub mod Splits
pub mod LineTest
pub mod ReadBack
pub mod StreamsOf
pub mod worked
pub mod ExitTest
pub mod Appending
pub mod Sound
pub mod ReadParam
mod RecordLemmas
