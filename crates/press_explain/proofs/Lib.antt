-- What is proved by hand of explanations.
mod CarryLemmas
mod DeedLemmas
mod ReadLemmas
mod StandLemmas
mod TitleLemmas
mod worked
