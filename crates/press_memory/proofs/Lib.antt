-- The lemmas of calls over bytes in memory.
mod Edges
mod JobLemmas
mod RoomLemmas
mod WrittenLemmas
