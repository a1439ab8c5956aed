-- The lemmas on events and on tickets.
pub mod EventLemmas
pub mod TicketLemmas
