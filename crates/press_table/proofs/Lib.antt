-- The lemmas on the command table: pages, changes of the page, and rows that keep it.
pub mod ChangeLemmas
pub mod ChangingLaws
pub mod PageKeptLemmas
pub mod PlaceLemmas
pub mod RefusalLaws
pub mod worked
