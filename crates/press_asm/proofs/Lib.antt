-- The lemmas on assembly text: its lines, and the forms of the commands.
pub mod FormRead
pub mod Digits
pub mod ParamLine
pub mod FormLaws
pub mod Assembling
pub mod Adding
pub mod LineStands
mod worked
