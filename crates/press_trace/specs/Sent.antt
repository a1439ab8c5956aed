-- What went out in a step.
use Rattle.std.specs.Prelude.{◌≡◌, List, length, min}
use Rattle.press_units.specs.Limits.{greatest_of_64_bits}
use Rattle.press_sink.specs.Sending.{Output, sheets_of, reply_bytes_of}
use Rattle.press_trace.specs.declared.sent.WentOut.{WentOut}

-- These outputs went out: so many sheets, where the greatest number stays, and the bytes of the replies, joined.
pub record AreOut (went : WentOut) (outputs : List Output) : Type 0 where
  pub sheets : went.sheets ≡ min (length (sheets_of outputs)) greatest_of_64_bits
  pub replies : went.replies.items ≡ reply_bytes_of outputs
