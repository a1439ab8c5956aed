-- Entries and their statuses (JDF 1.5, the status of a queue entry).
use Rattle.std.specs.Prelude.{ℕ, Bool, true, false, ◌&&◌, not}
use Rattle.press_queue.specs.declared.entry.Entry.{Entry}
use Rattle.press_queue.specs.declared.status.Status.{Status}
use Rattle.press_queue.specs.declared.status.Status.TheVariants.{Waiting, Running, Completed, Aborted}
use Rattle.press_queue.specs.declared.status.End.{End}
use Rattle.press_queue.specs.declared.status.End.TheVariants as ends

abbrev pub is_waiting : Status → Bool
is_waiting Waiting = true
is_waiting _ = false

abbrev pub is_running : Status → Bool
is_running Running = true
is_running _ = false

-- whether the entry takes no more turns
abbrev pub has_ended : Status → Bool
has_ended Completed = true
has_ended Aborted = true
has_ended _ = false

-- in flight: begun, and neither completed nor aborted
abbrev pub is_in_flight : Entry → Bool
is_in_flight entry = entry.begun && not (has_ended entry.status)

-- a new entry waits, and did not begin
abbrev pub new_entry : ℕ → Entry
new_entry priority = record { priority = priority; status = Waiting; begun = false }

-- the status of an entry that ended so
abbrev pub status_at_end : End → Status
status_at_end ends.Completed = Completed
status_at_end ends.Aborted = Aborted
