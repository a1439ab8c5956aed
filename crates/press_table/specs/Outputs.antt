-- What goes out when a command is carried out.
use Rattle.std.specs.Prelude.{ℕ, zero, suc, List, [], ◌∷◌, ◌++◌, Option, Some, None, option_map}
use Rattle.std.specs.List.{flat_map}
use Rattle.press_pjl.specs.Replies.{page_reply}
use Rattle.press_bits.specs.PrintedSheet.{PrintedSheet}
use Rattle.press_sink.specs.Sending.{Output, Deliver, Reply}
use Rattle.press_table.specs.declared.effect.FinishedSheet.{FinishedSheet}
use Rattle.press_table.specs.declared.effect.Sent.{Sent}
use Rattle.press_table.specs.declared.effect.Sent.TheVariants as sents
use Rattle.press_table.specs.Counts.{counted}

-- the reply that follows a sheet while the status switch is on: the count of sheets since the job began
abbrev pub status_out : (count : Option ℕ) → List Output
status_out None = []
status_out (Some since_job) = Reply (page_reply since_job) ∷ []

-- a sheet, and its reply
abbrev pub copy_out : PrintedSheet → (count : Option ℕ) → List Output
copy_out sheet count = Deliver sheet ∷ status_out count

-- the count with one sheet more
abbrev pub next_count : Option ℕ → Option ℕ
next_count count = option_map (λ since_job. counted since_job 1) count

-- So many copies of a sheet, one after another; where replies follow, by the count of sheets since the job began before the
-- first of them.
abbrev pub copies_out : PrintedSheet → (copies : ℕ) → (count : Option ℕ) → List Output
copies_out sheet zero count = []
copies_out sheet (suc copies) count =
    copy_out sheet (next_count count) ++ copies_out sheet copies (next_count count)

-- the copies of a finished sheet, where there is one
abbrev pub finished_of : Option FinishedSheet → List Output
finished_of None = []
finished_of (Some finished) = copies_out finished.sheet finished.copies finished.since_job

-- the outputs in the order in which they go out
abbrev pub outputs_of : Sent → List Output
outputs_of (sents.Sheet finished) = finished_of (Some finished)
outputs_of (sents.Reply bytes) = Reply bytes ∷ []

-- the outputs of all parts, in order
abbrev pub all_outputs : List Sent → List Output
all_outputs sent = flat_map outputs_of sent
