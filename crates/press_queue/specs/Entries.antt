-- Entries under their numbers, in the order of the queue.
use Rattle.std.specs.Prelude.{ℕ, Bool, true, ◌&&◌, List, Option, nat_eq, nat_lt, length, filter, find, insert}
use Rattle.std.specs.List.{position_or_len}
use Rattle.std.specs.Map.{lookup, remove_entry, set_value}
use Rattle.press_queue.specs.declared.command.EntryChange.{EntryChange}
use Rattle.press_queue.specs.declared.command.EntryChange.TheVariants as changes
use Rattle.press_queue.specs.declared.entry.Entry.{Entry}
use Rattle.press_queue.specs.declared.status.Status.{Status}
use Rattle.press_queue.specs.Status.{is_waiting, is_running, is_in_flight}

-- the entry that has this number, if one has
abbrev pub entry_numbered : ℕ → List (ℕ × Entry) → Option Entry
entry_numbered number entries = lookup (nat_eq number) entries

-- the entries, with another one under this number, at its place
abbrev pub with_entry : ℕ → Entry → List (ℕ × Entry) → List (ℕ × Entry)
with_entry number entry entries = set_value (nat_eq number) entries entry

-- the entries, with another status of this one
abbrev pub with_status : ℕ → Status → Entry → List (ℕ × Entry) → List (ℕ × Entry)
with_status number status entry entries = with_entry number (record entry { status = status }) entries

-- the entries without this one; the others keep their order
abbrev pub without_entry : ℕ → List (ℕ × Entry) → List (ℕ × Entry)
without_entry number entries = remove_entry (nat_eq number) entries

-- the index of the first entry of lower priority, or the length
abbrev pub place_of : ℕ → List (ℕ × Entry) → ℕ
place_of priority entries = position_or_len (λ e. nat_lt e.1.priority priority) entries

-- the entries, with a new one before the first of lower priority
abbrev pub put : ℕ → Entry → List (ℕ × Entry) → List (ℕ × Entry)
put number entry entries = insert entries (place_of entry.priority entries) (number, entry)

-- the entries, with this one taken out and put as a new one is
abbrev pub put_again : ℕ → Entry → List (ℕ × Entry) → List (ℕ × Entry)
put_again number entry entries = put number entry (without_entry number entries)

-- the entries, with this one at the index
abbrev pub moved_to : ℕ → ℕ → Entry → List (ℕ × Entry) → List (ℕ × Entry)
moved_to index number entry entries = insert (without_entry number entries) index (number, entry)

-- the entries, where a command made this of one
abbrev pub changed : EntryChange → ℕ → Entry → List (ℕ × Entry) → List (ℕ × Entry)
changed (changes.Status status) number entry entries = with_status number status entry entries
changed (changes.Priority priority) number entry entries = put_again number (record entry { priority = priority }) entries
changed (changes.Index index) number entry entries = moved_to index number entry entries
changed changes.Removal number entry entries = without_entry number entries

-- whether an index that it names is one of a list of this length
abbrev pub is_within : EntryChange → ℕ → Bool
is_within (changes.Index index) len = nat_lt index len
is_within other len = true

-- the first entry that waits
abbrev pub first_waiting : List (ℕ × Entry) → Option (ℕ × Entry)
first_waiting entries = find (λ e. is_waiting e.1.status) entries

-- the first entry that waits and has begun
abbrev pub first_to_go_on : List (ℕ × Entry) → Option (ℕ × Entry)
first_to_go_on entries = find (λ e. is_waiting e.1.status && e.1.begun) entries

-- the first entry that runs
abbrev pub first_running : List (ℕ × Entry) → Option (ℕ × Entry)
first_running entries = find (λ e. is_running e.1.status) entries

-- the entries that run
abbrev pub running_ones : List (ℕ × Entry) → List (ℕ × Entry)
running_ones entries = filter (λ e. is_running e.1.status) entries

-- how many are in flight
abbrev pub count_in_flight : List (ℕ × Entry) → ℕ
count_in_flight entries = length (filter (λ e. is_in_flight e.1) entries)
