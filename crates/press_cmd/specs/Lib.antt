-- The definitions of commands: which bytes are which command, and commands as values.
pub mod Carried
pub mod CommandLengths
pub mod Grammar
pub mod GrammarLaws
pub mod Kinds
pub mod Language
pub mod Lending
pub mod ParserState
pub mod Records
pub mod RecordsOnce
pub mod Split
pub mod Stored
pub mod StoredLemmas
pub mod Streams
pub mod Token
pub mod View
