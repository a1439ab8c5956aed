-- What each command does to the queue, and what it answers (JDF 1.5, the queue commands; this profile).
use Rattle.std.specs.Prelude.{ℕ, ◌+◌, ℤ, Bool, true, false, ◌&&◌, ◌||◌, if◌then◌else◌, nat_eq, nat_le, List, length, Option, Some}
use Rattle.std.specs.Prelude.{None, option_map, Result, Ok, Err, is_some, ok_or}
use Rattle.std.specs.Option.{option_map_or}
use Rattle.press_units.specs.Limits.{greatest_of_64_bits}
use Rattle.press_queue.specs.declared.command.EntryChange.{EntryChange}
use Rattle.press_queue.specs.declared.command.EntryChange.TheVariants as changes
use Rattle.press_queue.specs.declared.command.EntryCommand.{EntryCommand}
use Rattle.press_queue.specs.declared.command.EntryCommand.TheVariants as commands
use Rattle.press_queue.specs.declared.entry.Entry.{Entry}
use Rattle.press_queue.specs.declared.refusal.Refusal.{Refusal}
use Rattle.press_queue.specs.declared.refusal.Refusal.TheVariants as refusals
use Rattle.press_queue.specs.declared.status.Status.{Status}
use Rattle.press_queue.specs.declared.status.Status.TheVariants as statuses
use Rattle.press_queue.specs.declared.status.End.{End}
use Rattle.press_queue.specs.declared.status.QueueStatus.{QueueStatus}
use Rattle.press_queue.specs.declared.status.QueueStatus.TheVariants as standings
use Rattle.press_queue.specs.Entries.{entry_numbered, with_entry, with_status, changed, put}
use Rattle.press_queue.specs.Entries.{first_waiting, first_to_go_on, first_running, running_ones, count_in_flight}
use Rattle.press_queue.specs.Legal.{is_legal}
use Rattle.press_queue.specs.Priority.{priority_of, position_within}
use Rattle.press_queue.specs.State.{QueueState}
use Rattle.press_queue.specs.Status.{is_running, new_entry, status_at_end}

-- the most entries that a queue has
abbrev pub most_entries : ℕ
most_entries = 64

-- the most entries that are in flight
abbrev pub most_in_flight : ℕ
most_in_flight = 8

-- the last number that there is
abbrev pub last_number : ℕ
last_number = greatest_of_64_bits

-- What a command answers: the queue after it, and a value or why it was refused.
abbrev pub QueueAnswer : Type 0 → Type 0
QueueAnswer A = QueueState × Result A Refusal

-- nothing changes
abbrev pub refused : {A : Type 0} → QueueState → Refusal → QueueAnswer A
refused queue refusal = (queue, Err refusal)

abbrev pub accepted : QueueState → QueueAnswer (Unit {0})
accepted queue = (queue, Ok tt)

-- the queue, with these entries
abbrev pub with_entries : List (ℕ × Entry) → QueueState → QueueState
with_entries entries queue = record queue { entries = entries }

-- Whether no new entry fits: the queue has the most entries, or gave the last number.
abbrev pub is_full : QueueState → Bool
is_full queue = nat_le most_entries (length queue.entries) || nat_eq queue.last last_number

-- The queue with a new entry under the next number, which is answered.
abbrev pub submitted : ℕ → QueueState → QueueAnswer ℕ
submitted priority queue = (
  record queue {
    entries = put (queue.last + 1) (new_entry priority) queue.entries;
    last = queue.last + 1;
  },
  Ok (queue.last + 1),
)

abbrev pub submitted_at : Option ℕ → QueueState → QueueAnswer ℕ
submitted_at None queue = refused queue refusals.BadPriority
submitted_at (Some priority) queue = submitted priority queue

-- SubmitQueueEntry: 23 closed, 24 full, 25 a bad priority; else a new entry that waits, before the first of lower priority.
abbrev pub submit : ℤ → QueueState → QueueAnswer ℕ
submit priority queue =
    if queue.closed then refused queue refusals.Closed
    else (if is_full queue then refused queue refusals.Full else submitted_at (priority_of priority) queue)

-- The entry that a command names, where the command is legal: 21 where there is none, 22 where it is not legal.
abbrev pub legal_at : EntryCommand → Option Entry → Result Entry Refusal
legal_at command None = Err refusals.Unknown
legal_at command (Some entry) = if is_legal command entry.status then Ok entry else Err refusals.WrongStatus

abbrev pub legal_entry : EntryCommand → ℕ → List (ℕ × Entry) → Result Entry Refusal
legal_entry command number entries = legal_at command (entry_numbered number entries)

-- the entry gets another status
abbrev pub set_status : ℕ → Status → Entry → QueueState → QueueState
set_status number status entry queue =
    with_entries (with_status number status entry queue.entries) queue

-- What each command makes of an entry at which it is legal: the entry is held; it waits; it is suspended, 27 where the most entries are
-- in flight; it is aborted; it leaves the list; it gets a priority and is put as a new one, 25 a bad priority; it moves to an index and
-- keeps its priority, 26 a bad position.
abbrev pub change_of : EntryCommand → QueueState → Result EntryChange Refusal
change_of commands.Hold queue = Ok (changes.Status statuses.Held)
change_of commands.Resume queue = Ok (changes.Status statuses.Waiting)
change_of commands.Suspend queue =
    if nat_le most_in_flight (count_in_flight queue.entries) then Err refusals.InFlightFull else Ok (changes.Status statuses.Suspended)
change_of commands.Abort queue = Ok (changes.Status statuses.Aborted)
change_of commands.Remove queue = Ok changes.Removal
change_of (commands.SetPriority priority) queue =
    ok_or (option_map (λ given. changes.Priority given) (priority_of priority)) refusals.BadPriority
change_of (commands.SetPosition position) queue =
    ok_or (option_map (λ index. changes.Index index) (position_within (length queue.entries) position)) refusals.BadPosition

-- the queue, where a command makes this of the entry; a refusal changes nothing
abbrev pub at_change : ℕ → Entry → QueueState → Result EntryChange Refusal → QueueAnswer (Unit {0})
at_change number entry queue (Err refusal) = refused queue refusal
at_change number entry queue (Ok change) = accepted (with_entries (changed change number entry queue.entries) queue)

-- the same, by the entry that the command names, or why it is refused
abbrev pub at_entry : EntryCommand → ℕ → QueueState → Result Entry Refusal → QueueAnswer (Unit {0})
at_entry command number queue (Err refusal) = refused queue refusal
at_entry command number queue (Ok entry) = at_change number entry queue (change_of command queue)

-- A command to one entry: 21, 22, and then what it makes of the entry.
abbrev pub commanded : EntryCommand → ℕ → QueueState → QueueAnswer (Unit {0})
commanded command number queue = at_entry command number queue (legal_entry command number queue.entries)

-- HoldQueueEntry: of a waiting entry; it is held.
abbrev pub hold : ℕ → QueueState → QueueAnswer (Unit {0})
hold number queue = commanded commands.Hold number queue

-- ResumeQueueEntry: of a held or suspended entry; it waits.
abbrev pub resume : ℕ → QueueState → QueueAnswer (Unit {0})
resume number queue = commanded commands.Resume number queue

-- SuspendQueueEntry: of a running entry; 27 where the most entries are in flight; it is suspended.
abbrev pub suspend : ℕ → QueueState → QueueAnswer (Unit {0})
suspend number queue = commanded commands.Suspend number queue

-- AbortQueueEntry: of an entry that did not end; it is aborted.
abbrev pub abort : ℕ → QueueState → QueueAnswer (Unit {0})
abort number queue = commanded commands.Abort number queue

-- RemoveQueueEntry: of an entry that waits, is held or ended; it leaves the list.
abbrev pub remove : ℕ → QueueState → QueueAnswer (Unit {0})
remove number queue = commanded commands.Remove number queue

-- SetQueueEntryPriority: of an entry that waits or is held; 25 a bad priority; it gets the priority, and is put as a new one.
abbrev pub set_priority : ℕ → ℤ → QueueState → QueueAnswer (Unit {0})
set_priority number priority queue = commanded (commands.SetPriority priority) number queue

-- SetQueueEntryPosition: of an entry that waits or is held; 26 a bad position; it moves to that index, and keeps its priority.
abbrev pub set_position : ℕ → ℤ → QueueState → QueueAnswer (Unit {0})
set_position number position queue = commanded (commands.SetPosition position) number queue

-- HoldQueue, ResumeQueue: whether no entry begins.
abbrev pub hold_queue : QueueState → QueueState
hold_queue queue = record queue { held = true }

abbrev pub resume_queue : QueueState → QueueState
resume_queue queue = record queue { held = false }

-- OpenQueue, CloseQueue: whether no new entry is taken.
abbrev pub open_queue : QueueState → QueueState
open_queue queue = record queue { closed = false }

abbrev pub close_queue : QueueState → QueueState
close_queue queue = record queue { closed = true }

-- FlushQueue: every entry that does not run leaves.
abbrev pub flush : QueueState → QueueState
flush queue = with_entries (running_ones queue.entries) queue

-- the entry runs, and has begun
abbrev pub begun_entry : Entry → Entry
begun_entry entry = record entry { status = statuses.Running; begun = true }

abbrev pub begin_with : Option (ℕ × Entry) → QueueState → QueueState × Option ℕ
begin_with None queue = (queue, None)
begin_with (Some e) queue = (with_entries (with_entry e.0 (begun_entry e.1) queue.entries) queue, Some e.0)

-- the entry that comes next: the first that waits; where the most entries are in flight, the first that waits and has begun
abbrev pub next_to_run : List (ℕ × Entry) → Option (ℕ × Entry)
next_to_run entries =
    if nat_le most_in_flight (count_in_flight entries) then first_to_go_on entries else first_waiting entries

-- Unless the queue is held, the entry that comes next runs, at the place it had.
abbrev pub begin : QueueState → QueueState × Option ℕ
begin queue = begin_with (if queue.held then None else next_to_run queue.entries) queue

-- A running entry ends.
abbrev pub finish_entry_at : Option Entry → ℕ → End → QueueState → QueueState
finish_entry_at None number end queue = queue
finish_entry_at (Some entry) number end queue = set_status number (status_at_end end) entry queue

abbrev pub finish_entry : ℕ → End → QueueState → QueueState
finish_entry number end queue = finish_entry_at (entry_numbered number queue.entries) number end queue

-- whether the entry of this number runs
abbrev pub entry_runs : ℕ → QueueState → Bool
entry_runs number queue = option_map_or (λ entry. is_running entry.status) (entry_numbered number queue.entries) false

-- the number of the first entry that runs
abbrev pub running : QueueState → Option ℕ
running queue = option_map (λ e. e.0) (first_running queue.entries)

-- The status of the queue: the first of these that holds.
abbrev pub queue_status : QueueState → QueueStatus
queue_status queue =
    if queue.closed && queue.held then standings.Blocked
    else (if queue.closed then standings.Closed
    else (if queue.held then standings.Held
    else (if nat_le most_entries (length queue.entries) then standings.Full
    else (if is_some (first_running queue.entries) then standings.Running else standings.Waiting))))
