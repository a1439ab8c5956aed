-- Lemmas on texts and pages of streams, and on debuggers.
mod DebuggerLemmas
mod DebuggerSteps
mod DisassemblyLemmas
mod PagingLemmas
