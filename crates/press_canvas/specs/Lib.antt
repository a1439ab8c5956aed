-- The definitions of pages that are turned.
pub mod Turned
pub mod Block
pub mod Strip
pub mod Changes
