-- The lemmas on the members of a ticket, and on its ranges of pages.
mod ItemLemmas
pub mod JsonLemmas
mod LeastLemmas
mod PageLemmas
mod RangeLemmas
pub mod worked
