-- The lemmas on tiles.
pub mod TileLemmas
pub mod HatchLemmas
pub mod worked
