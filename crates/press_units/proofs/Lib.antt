-- The lemmas on value fields, decimal numbers and exits.
pub mod EntryLemmas
pub mod ExitLemmas
pub mod FieldLemmas
pub mod FieldTest
pub mod DecimalLemmas
pub mod worked
