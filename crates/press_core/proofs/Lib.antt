-- The lemmas on the press: its queue, its works and engines.
pub mod AbortLemmas
pub mod AnswerLemmas
pub mod CommandLemmas
pub mod DeviceLemmas
pub mod EngineLemmas
pub mod EntryLemmas
pub mod EventLemmas
pub mod FloatLemmas
pub mod HandingLemmas
pub mod JobLemmas
pub mod PressLemmas
pub mod SoundLemmas
pub mod StandLemmas
pub mod StepsLemmas
pub mod TurnLemmas
pub mod WorkLemmas
pub mod worked
