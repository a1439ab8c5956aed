-- The lemmas on runs of events.
mod AbortedQueues
mod AccountLemmas
mod BoundLemmas
mod ChangeLemmas
mod HandedLemmas
mod MessageChanges
mod RunLemmas
mod Standings
mod TurnChanges
mod WhileLemmas
mod worked
