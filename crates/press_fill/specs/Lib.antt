-- The definitions of rectangle fills.
pub mod Fill
pub mod Rule
