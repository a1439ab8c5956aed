-- Which command is legal at which status of an entry (JDF 1.5, the queue commands; this profile).
use Rattle.std.specs.Prelude.{Bool, true, false}
use Rattle.press_queue.specs.declared.command.EntryCommand.{EntryCommand}
use Rattle.press_queue.specs.declared.command.EntryCommand.TheVariants as commands
use Rattle.press_queue.specs.declared.status.Status.{Status}
use Rattle.press_queue.specs.declared.status.Status.TheVariants as statuses

-- The pairs that are listed, and no others.
abbrev pub is_legal : EntryCommand → Status → Bool
is_legal commands.Hold statuses.Waiting = true
is_legal commands.Resume statuses.Held = true
is_legal commands.Resume statuses.Suspended = true
is_legal commands.Suspend statuses.Running = true
is_legal commands.Abort statuses.Waiting = true
is_legal commands.Abort statuses.Held = true
is_legal commands.Abort statuses.Running = true
is_legal commands.Abort statuses.Suspended = true
is_legal commands.Remove statuses.Waiting = true
is_legal commands.Remove statuses.Held = true
is_legal commands.Remove statuses.Completed = true
is_legal commands.Remove statuses.Aborted = true
is_legal (commands.SetPriority priority) statuses.Waiting = true
is_legal (commands.SetPriority priority) statuses.Held = true
is_legal (commands.SetPosition position) statuses.Waiting = true
is_legal (commands.SetPosition position) statuses.Held = true
is_legal _ _ = false
