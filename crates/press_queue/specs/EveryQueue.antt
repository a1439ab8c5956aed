-- What is true of every queue, whatever was asked of it (CIP4 JDF 1.5, the queue; the limits are this profile's).
use Rattle.std.specs.Prelude.{◌≤◌, ◌<◌, ℕ, ◌&&◌, Bool, IsTrue, List, filter, length, nat_eq, nat_le, not}
use Rattle.std.specs.List.{IsDistinct, list_all}
use Rattle.std.specs.Map.{keys_of}
use Rattle.press_queue.specs.declared.entry.Entry.{Entry}
use Rattle.press_queue.specs.Entries.{count_in_flight}
use Rattle.press_queue.specs.Rows.{most_entries, most_in_flight}
use Rattle.press_queue.specs.State.{QueueState}
use Rattle.press_queue.specs.Status.{is_in_flight, is_running}

-- whether each has a number up to this one
abbrev pub are_up_to : ℕ → List (ℕ × Entry) → Bool
are_up_to last entries = list_all (λ e. nat_le e.0 last) entries

-- in flight, and not running
abbrev pub is_resting : Entry → Bool
is_resting entry = is_in_flight entry && not (is_running entry.status)

abbrev pub count_resting : List (ℕ × Entry) → ℕ
count_resting entries = length (filter (λ e. is_resting e.1) entries)

-- No number stands twice, and each is one that the queue gave. At most 64 entries are in the list, at most eight are in flight,
-- and at most seven are in flight without running. How many may run is no matter of the queue.
pub record IsQueue (queue : QueueState) : Type 0 where
  pub distinct : IsDistinct nat_eq (keys_of queue.entries)
  pub given : IsTrue (are_up_to queue.last queue.entries)
  pub listed : length queue.entries ≤ most_entries
  pub in_flight : count_in_flight queue.entries ≤ most_in_flight
  pub resting : count_resting queue.entries < most_in_flight
