-- The return codes of refused commands (this profile).
use Rattle.std.specs.Prelude.{ℕ, Option, Some, None}
use Rattle.press_queue.specs.declared.refusal.Refusal.{Refusal}
use Rattle.press_queue.specs.declared.refusal.Refusal.TheVariants as refusals
use Rattle.press_queue.specs.declared.refusal.SubmitError.{SubmitError}
use Rattle.press_queue.specs.declared.refusal.SubmitError.TheVariants as submissions

abbrev pub return_code_of : Refusal → ℕ
return_code_of refusals.Unknown = 21
return_code_of refusals.WrongStatus = 22
return_code_of refusals.Closed = 23
return_code_of refusals.Full = 24
return_code_of refusals.BadPriority = 25
return_code_of refusals.BadPosition = 26
return_code_of refusals.InFlightFull = 27

-- the number of a submission that was not taken: that of the refusal; none where memory ran out
abbrev pub submit_number : SubmitError → Option ℕ
submit_number (submissions.Refused refusal) = Some (return_code_of refusal)
submit_number submissions.NoMemory = None
