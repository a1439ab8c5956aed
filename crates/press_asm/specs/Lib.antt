-- The definitions of assembly text: its lines, the commands that they stand for, and the bytes of these.
pub mod Faults
pub mod Form
pub mod FormLaw
pub mod Judged
pub mod Kinds
pub mod Reading
pub mod Text
pub mod View
pub mod Written
