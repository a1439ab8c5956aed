-- What a submission answers, which may need memory.
use Rattle.std.specs.Prelude.{◌≡◌, ℕ, Result, Ok, Err, IsOk}
use Rattle.press_queue.specs.declared.refusal.SubmitError.{SubmitError}
use Rattle.press_queue.specs.declared.refusal.SubmitError.TheVariants.{Refused, NoMemory}
use Rattle.press_queue.specs.Rows.{QueueAnswer}
use Rattle.press_queue.specs.State.{QueueState}

-- Queue and answer are the row's; or memory ran out where the row takes the entry, and nothing changed.
abbrev pub Submits : QueueAnswer ℕ → QueueState → Result ℕ SubmitError → QueueState → Type 0
Submits row old (Ok number) new = (new, Ok number) ≡ row
Submits row old (Err (Refused refusal)) new = (new, Err refusal) ≡ row
Submits row old (Err NoMemory) new = (new ≡ old) × IsOk row.1
