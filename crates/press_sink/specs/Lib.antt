-- Sheets and replies, and where they go.
pub mod Faults
pub mod Kept
pub mod Outputs
pub mod Sending
pub mod Template
pub mod SinkLog
pub use Rattle.press_bits.specs.Page
