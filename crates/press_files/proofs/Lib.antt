-- Lemmas on listings, files and talks.
mod AgainLemmas
mod EntryLines
pub mod EntryPagesLemmas
mod EntryTemplateLemmas
mod FilesLemmas
pub mod JobLemmas
mod LineLemmas
pub mod ListingLemmas
mod MarkLemmas
mod NumberingLemmas
pub mod PrintedLemmas
pub mod TalkLemmas
