-- Refusals of commands on small and on full queues, and places of entries, computed.
use Rattle.std.proofs.Common.{◌≡◌, ℕ, zero, suc, List, [], ◌∷◌, map, true, false, pos, negsuc, Some, None, Result, Ok, Err, refl}
use Rattle.press_queue.specs.declared.entry.Entry.{Entry}
use Rattle.press_queue.specs.declared.refusal.Refusal.{Refusal}
use Rattle.press_queue.specs.declared.refusal.Refusal.TheVariants as refusals
use Rattle.press_queue.specs.declared.status.Status.{Status}
use Rattle.press_queue.specs.declared.status.Status.TheVariants as statuses
use Rattle.press_queue.specs.Rows.{QueueAnswer, submit, hold, resume, suspend, abort, remove, set_priority, set_position, begin, begun_entry}
use Rattle.press_queue.specs.State.{QueueState}
use Rattle.press_queue.specs.Status.{is_waiting, is_running, has_ended, is_in_flight, new_entry}

-- so many entries of priority 50 that wait
abbrev waiting_ones : ℕ → List (ℕ × Entry)
waiting_ones zero = []
waiting_ones (suc n) = (suc n, new_entry 50) ∷ waiting_ones n

-- so many entries of priority 50 that were begun and suspended
abbrev suspended_ones : ℕ → List (ℕ × Entry)
suspended_ones zero = []
suspended_ones (suc n) = (suc n, record { priority = 50; status = statuses.Suspended; begun = true }) ∷ suspended_ones n

abbrev queue_of : List (ℕ × Entry) → QueueState
queue_of entries = record { entries = entries; held = false; closed = false; last = 64 }

abbrev closed_queue_of : List (ℕ × Entry) → QueueState
closed_queue_of entries = record { entries = entries; held = false; closed = true; last = 64 }

-- a queue has up to 64 entries; closed comes first, and the priority last
pub the_sixty_fifth : (submit (pos 50) (queue_of (waiting_ones 64))).1 ≡ Err refusals.Full
the_sixty_fifth = refl

pub full_before_priority : (submit (pos 101) (queue_of (waiting_ones 64))).1 ≡ Err refusals.Full
full_before_priority = refl

pub closed_before_full : (submit (pos 101) (closed_queue_of (waiting_ones 64))).1 ≡ Err refusals.Closed
closed_before_full = refl

pub priority_past_a_hundred : (submit (pos 101) (queue_of (waiting_ones 3))).1 ≡ Err refusals.BadPriority
priority_past_a_hundred = refl

pub priority_below_zero : (submit (negsuc 0) (queue_of (waiting_ones 3))).1 ≡ Err refusals.BadPriority
priority_below_zero = refl

pub priority_of_a_hundred : (submit (pos 100) (queue_of (waiting_ones 3))).1 ≡ Ok 65
priority_of_a_hundred = refl

-- a position is less than the number of entries
pub position_past_the_end : (set_position 2 (pos 3) (queue_of (waiting_ones 3))).1 ≡ Err refusals.BadPosition
position_past_the_end = refl

-- no entry of this number
pub unknown_entry : (hold 4 (queue_of (waiting_ones 3))).1 ≡ Err refusals.Unknown
unknown_entry = refl

pub unknown_before_priority : (set_priority 4 (pos 101) (queue_of (waiting_ones 3))).1 ≡ Err refusals.Unknown
unknown_before_priority = refl

-- a running entry where seven others are in flight, and where six are
abbrev running_entry : ℕ × Entry
running_entry = (8, record { priority = 50; status = statuses.Running; begun = true })

pub a_ninth_in_flight : (suspend 8 (queue_of (running_entry ∷ suspended_ones 7))).1 ≡ Err refusals.InFlightFull
a_ninth_in_flight = refl

pub an_eighth_in_flight : (suspend 8 (queue_of (running_entry ∷ suspended_ones 6))).1 ≡ Ok tt
an_eighth_in_flight = refl

pub status_before_flight : (suspend 9 (queue_of ((9, new_entry 50) ∷ running_entry ∷ suspended_ones 7))).1 ≡ Err refusals.WrongStatus
status_before_flight = refl

pub status_before_priority : (set_priority 8 (pos 101) (queue_of (running_entry ∷ []))).1 ≡ Err refusals.WrongStatus
status_before_priority = refl

pub status_before_position : (set_position 8 (pos 1) (queue_of (running_entry ∷ []))).1 ≡ Err refusals.WrongStatus
status_before_position = refl

-- An entry begins beside others that run, at the place it had, while fewer than eight are in flight. Where eight are, none that
-- never began does, and the first that waits and has begun goes on. None does where the queue is held.
abbrev begun_before : ℕ × Entry
begun_before = (9, record { priority = 50; status = statuses.Waiting; begun = true })

abbrev new_one : ℕ × Entry
new_one = (10, new_entry 50)

abbrev seven_in_flight : List (ℕ × Entry)
seven_in_flight = running_entry ∷ suspended_ones 6

pub begins_beside_others : begin (queue_of (new_one ∷ begun_before ∷ running_entry ∷ suspended_ones 5))
    ≡ (queue_of ((10, begun_entry new_one.1) ∷ begun_before ∷ running_entry ∷ suspended_ones 5), Some 10)
begins_beside_others = refl

pub goes_on_at_eight : begin (queue_of (new_one ∷ begun_before ∷ seven_in_flight)) ≡ (queue_of (new_one ∷ (9, begun_entry begun_before.1) ∷ seven_in_flight), Some 9)
goes_on_at_eight = refl

pub none_begins_at_eight : begin (queue_of (new_one ∷ running_entry ∷ suspended_ones 7)) ≡ (queue_of (new_one ∷ running_entry ∷ suspended_ones 7), None)
none_begins_at_eight = refl

pub none_begins_where_held : begin (record (queue_of (new_one ∷ [])) { held = true }) ≡ (record (queue_of (new_one ∷ [])) { held = true }, None)
none_begins_where_held = refl

-- a new entry stands before an aborted one of lower priority
abbrev aborted_entry : ℕ × Entry
aborted_entry = (2, record { priority = 40; status = statuses.Aborted; begun = false })

pub before_an_aborted_one : (submit (pos 50) (queue_of ((1, new_entry 50) ∷ aborted_entry ∷ []))).0.entries
    ≡ (1, new_entry 50) ∷ (65, new_entry 50) ∷ aborted_entry ∷ []
before_an_aborted_one = refl

-- A command for an entry at each status: what it answers, and the status of the entry after it, if it is still in the list.
abbrev all_statuses : List Status
all_statuses = statuses.Waiting ∷ statuses.Held ∷ statuses.Running ∷ statuses.Suspended ∷ statuses.Completed ∷ statuses.Aborted ∷ []

abbrev entry_at : Status → Entry
entry_at status = record { priority = 50; status = status; begun = true }

abbrev answers : (QueueState → QueueAnswer (Unit {0})) → List (Result (Unit {0}) Refusal)
answers command = map (λ status. (command (queue_of ((1, entry_at status) ∷ []))).1) all_statuses

abbrev statuses_after : (QueueState → QueueAnswer (Unit {0})) → List (List Status)
statuses_after command =
    map (λ status. map (λ numbered. numbered.1.status) (command (queue_of ((1, entry_at status) ∷ []))).0.entries) all_statuses

hold-answers : answers (hold 1)
    ≡ Ok tt ∷ Err refusals.WrongStatus ∷ Err refusals.WrongStatus ∷ Err refusals.WrongStatus ∷ Err refusals.WrongStatus ∷ Err refusals.WrongStatus ∷ []
hold-answers = refl

hold-leaves : statuses_after (hold 1)
    ≡ (statuses.Held ∷ []) ∷ (statuses.Held ∷ []) ∷ (statuses.Running ∷ []) ∷ (statuses.Suspended ∷ []) ∷ (statuses.Completed ∷ []) ∷ (statuses.Aborted ∷ []) ∷ []
hold-leaves = refl

resume-answers : answers (resume 1)
    ≡ Err refusals.WrongStatus ∷ Ok tt ∷ Err refusals.WrongStatus ∷ Ok tt ∷ Err refusals.WrongStatus ∷ Err refusals.WrongStatus ∷ []
resume-answers = refl

resume-leaves : statuses_after (resume 1)
    ≡ (statuses.Waiting ∷ []) ∷ (statuses.Waiting ∷ []) ∷ (statuses.Running ∷ []) ∷ (statuses.Waiting ∷ []) ∷ (statuses.Completed ∷ []) ∷ (statuses.Aborted ∷ []) ∷ []
resume-leaves = refl

suspend-answers : answers (suspend 1)
    ≡ Err refusals.WrongStatus ∷ Err refusals.WrongStatus ∷ Ok tt ∷ Err refusals.WrongStatus ∷ Err refusals.WrongStatus ∷ Err refusals.WrongStatus ∷ []
suspend-answers = refl

suspend-leaves : statuses_after (suspend 1)
    ≡ (statuses.Waiting ∷ []) ∷ (statuses.Held ∷ []) ∷ (statuses.Suspended ∷ []) ∷ (statuses.Suspended ∷ []) ∷ (statuses.Completed ∷ []) ∷ (statuses.Aborted ∷ []) ∷ []
suspend-leaves = refl

abort-answers : answers (abort 1) ≡ Ok tt ∷ Ok tt ∷ Ok tt ∷ Ok tt ∷ Err refusals.WrongStatus ∷ Err refusals.WrongStatus ∷ []
abort-answers = refl

abort-leaves : statuses_after (abort 1)
    ≡ (statuses.Aborted ∷ []) ∷ (statuses.Aborted ∷ []) ∷ (statuses.Aborted ∷ []) ∷ (statuses.Aborted ∷ []) ∷ (statuses.Completed ∷ []) ∷ (statuses.Aborted ∷ []) ∷ []
abort-leaves = refl

remove-answers : answers (remove 1) ≡ Ok tt ∷ Ok tt ∷ Err refusals.WrongStatus ∷ Err refusals.WrongStatus ∷ Ok tt ∷ Ok tt ∷ []
remove-answers = refl

remove-leaves : statuses_after (remove 1) ≡ [] ∷ [] ∷ (statuses.Running ∷ []) ∷ (statuses.Suspended ∷ []) ∷ [] ∷ [] ∷ []
remove-leaves = refl

set_priority-answers : answers (set_priority 1 (pos 0))
    ≡ Ok tt ∷ Ok tt ∷ Err refusals.WrongStatus ∷ Err refusals.WrongStatus ∷ Err refusals.WrongStatus ∷ Err refusals.WrongStatus ∷ []
set_priority-answers = refl

set_priority-leaves : statuses_after (set_priority 1 (pos 0)) ≡ map (λ status. status ∷ []) all_statuses
set_priority-leaves = refl

set_position-answers : answers (set_position 1 (pos 0))
    ≡ Ok tt ∷ Ok tt ∷ Err refusals.WrongStatus ∷ Err refusals.WrongStatus ∷ Err refusals.WrongStatus ∷ Err refusals.WrongStatus ∷ []
set_position-answers = refl

set_position-leaves : statuses_after (set_position 1 (pos 0)) ≡ map (λ status. status ∷ []) all_statuses
set_position-leaves = refl

-- which entries wait, run, have ended, and are in flight once they began
waiting : map is_waiting all_statuses ≡ true ∷ false ∷ false ∷ false ∷ false ∷ false ∷ []
waiting = refl

running : map is_running all_statuses ≡ false ∷ false ∷ true ∷ false ∷ false ∷ false ∷ []
running = refl

ended : map has_ended all_statuses ≡ false ∷ false ∷ false ∷ false ∷ true ∷ true ∷ []
ended = refl

in_flight : map (λ status. is_in_flight (entry_at status)) all_statuses ≡ true ∷ true ∷ true ∷ true ∷ false ∷ false ∷ []
in_flight = refl

not_begun : map (λ status. is_in_flight (record (entry_at status) { begun = false })) all_statuses ≡ map (λ _. false) all_statuses
not_begun = refl
