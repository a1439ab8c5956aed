-- The lemmas on the entries of a queue, and on its rows.
pub mod CommandLemmas
mod CountLemmas
mod EntryLemmas
pub mod FirstLemmas
mod KeyLemmas
mod NumberLemmas
mod PutLemmas
mod RowLemmas
pub mod StatusLemmas
pub mod worked
