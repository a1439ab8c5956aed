-- The law of jobs: the stream of a ticket's job prints the ticket.
pub mod Printing
pub mod PrintingLaw
