-- The lemmas on the assembly text of a stream, which is read again as the same commands.
pub mod ReadAgain
pub mod Standing
pub mod Listing
