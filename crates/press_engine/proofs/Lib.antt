-- The lemmas on the engine: its steps, macros and items, and what goes out.
pub mod BegunLemmas
pub mod ChangingLaws
pub mod CommandItems
pub mod DepthLaws
pub mod EndsLemmas
pub mod FoldLaws
pub mod ItemsLemmas
pub mod RunningLaws
pub mod Runs
pub mod SendsLemmas
pub mod StackLaws
pub mod StackLemmas
pub mod StepLemmas
pub mod TraceLaws
pub mod ValueLemmas
pub mod WholeLemmas
pub mod worked
mod InnerLemmas
mod NestingLemmas
pub mod StepLaws
pub mod PassingLaws
