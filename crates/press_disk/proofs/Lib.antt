-- Lemmas on disks.
pub mod DiskLemmas
pub mod TurnLemmas
