-- Lemmas on sessions.
mod HappeningLemmas
mod SessionLemmas
mod WordLemmas
