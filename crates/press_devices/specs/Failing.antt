-- Whether a device failed by now.
use Rattle.std.specs.Prelude.{Bool, true, Result, Ok, Err}

-- whether a call failed, this one or one before
abbrev pub failed_with : {X E : Type 0} → Bool → Result X E → Bool
failed_with failed (Ok _) = failed
failed_with failed (Err _) = true
