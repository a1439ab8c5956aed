-- What is true of every queue stays true: a lemma for each row.
use Rattle.std.proofs.Common.{◌≡◌, ◌≤◌, ◌<◌, ℕ, ℤ, ◌+◌, Bool, true, false, ◌&&◌, ◌||◌, not, if◌then◌else◌, nat_eq, nat_le, true≢false}
use Rattle.std.proofs.Common.{List, Option, Some, None, Result, Ok, Err, insert, length, refl, sym, ap, subst, ◌∙◌, arith, rules}
use Rattle.std.specs.Cmp.Derive.{both_true}
use Rattle.std.specs.List.{IsDistinct}
use Rattle.std.specs.Map.{keys_of}
use Rattle.std.proofs.lemmas.Map.{keys-set_value, length-set_value}
use Rattle.std.proofs.lemmas.Map.Made.{IsDistinct-keys_filter}
use Rattle.press_queue.specs.declared.command.EntryChange.{EntryChange}
use Rattle.press_queue.specs.declared.command.EntryChange.TheVariants as changes
use Rattle.press_queue.specs.declared.command.EntryCommand.{EntryCommand}
use Rattle.press_queue.specs.declared.entry.Entry.{Entry}
use Rattle.press_queue.specs.declared.refusal.Refusal.{Refusal}
use Rattle.press_queue.specs.declared.refusal.Refusal.TheVariants as refusals
use Rattle.press_queue.specs.declared.status.End.{End}
use Rattle.press_queue.specs.declared.status.End.TheVariants as ends
use Rattle.press_queue.specs.declared.status.Status.{Status}
use Rattle.press_queue.specs.declared.status.Status.TheVariants as statuses
use Rattle.press_queue.specs.Entries.{changed, entry_numbered, put, with_entry, without_entry, count_in_flight, place_of, first_to_go_on, first_waiting}
use Rattle.press_queue.specs.EveryQueue.{IsQueue, count_resting, is_resting}
use Rattle.press_queue.specs.Legal.{is_legal}
use Rattle.press_queue.specs.Priority.{priority_of}
use Rattle.press_queue.specs.Rows as rows
use Rattle.press_queue.specs.State.{QueueState, empty_queue}
use Rattle.press_queue.specs.Status.{is_running, is_waiting, is_in_flight, has_ended, new_entry}
use Rattle.press_queue.proofs.CommandLemmas.{Commanded, commanded_is}
use Rattle.press_queue.proofs.CountLemmas.{one, one_le, count_of, count_le, count-all, count-with_entry, count-with_entry_le, count-without, count-insert, count-filter}
use Rattle.press_queue.proofs.FirstLemmas.{first_is_numbered}
use Rattle.press_queue.proofs.KeyLemmas.{distinct_insert, distinct_without, not_among}
use Rattle.press_queue.proofs.NumberLemmas.{absent_above, none-above, up_to-none, up_to_put_next, up_to_with_entry}
use Rattle.press_queue.proofs.StatusLemmas.{and-first, and-second}

pub empty_queue-is : IsQueue empty_queue
unfolding IsDistinct
empty_queue-is = record { distinct = tt; given = refl; listed = omega arith; in_flight = omega arith; resting = omega arith }

-- the flags are no matter
pub flags-keep : (held closed : Bool) (queue : QueueState) → IsQueue queue → IsQueue (record queue { held = held; closed = closed })
flags-keep held closed queue kept = grind arith

-- Entries among which no number stands twice, and no more of which pass a test of their numbers, statuses and of whether they began.
fewer-keeps : (es : List (ℕ × Entry)) (queue : QueueState) → IsDistinct nat_eq (keys_of es)
    → ((test : ℕ → Status → Bool → Bool) → count_of (λ e. test e.0 e.1.status e.1.begun) es ≤ count_of (λ e. test e.0 e.1.status e.1.begun) queue.entries)
    → IsQueue queue → IsQueue (rows.with_entries es queue)
fewer-keeps es queue distinct fewer kept = record {
  distinct = distinct;
  given = up_to-none queue.last es (omega (arith, fewer (λ number status begun. not (nat_le number queue.last)), none-above queue.last queue.entries kept.given));
  listed = omega (arith, fewer (λ number status begun. true), count-all es, count-all queue.entries, kept.listed);
  in_flight = omega (arith, fewer (λ number status begun. begun && not (has_ended status)), kept.in_flight);
  resting = omega (arith, fewer (λ number status begun. (begun && not (has_ended status)) && not (is_running status)), kept.resting);
}

pub flush-keeps : (queue : QueueState) → IsQueue queue → IsQueue (rows.flush queue)
flush-keeps queue kept =
    let runs = λ (e : ℕ × Entry). is_running e.1.status in
    fewer-keeps (rows.flush queue).entries queue (IsDistinct-keys_filter nat_eq runs queue.entries kept.distinct) (λ test. count-filter _ runs queue.entries) kept

-- Another entry under a number, where no more are in flight, or rest, than may.
sets-keeps : (number : ℕ) (new : Entry) (queue : QueueState) → count_in_flight (with_entry number new queue.entries) ≤ rows.most_in_flight
    → count_resting (with_entry number new queue.entries) < rows.most_in_flight → IsQueue queue → IsQueue (rows.with_entries (with_entry number new queue.entries) queue)
sets-keeps number new queue in_flight resting kept = grind (arith, keys-set_value, up_to_with_entry, length-set_value)

-- An entry that is put back at any index, with the status that it had.
put_back-keeps : (index number priority : ℕ) (old : Entry) (queue : QueueState) → entry_numbered number queue.entries ≡ Some old
    → IsQueue queue → IsQueue (rows.with_entries (insert (without_entry number queue.entries) index (number, record old { priority = priority })) queue)
put_back-keeps index number priority old queue there kept =
    let new : Entry = record old { priority = priority } in
    let others = without_entry number queue.entries in
    let alone = distinct_without number old queue.entries there kept.distinct in
    fewer-keeps (insert others index (number, new)) queue (distinct_insert index number new others alone.0 alone.1)
    (λ test. omega (arith, count-insert (λ e. test e.0 e.1.status e.1.begun) index (number, new) others, count-without (λ e. test e.0 e.1.status e.1.begun) number old queue.entries there))
    kept

-- ---- commands to one entry

-- an entry in this status is in flight without running, where it began
abbrev rests_at : Status → Bool
rests_at status = not (has_ended status) && not (is_running status)

-- The status that an entry gets ends it; or it rested before; or it had not ended, and fewer are in flight than may be.
data MayGet (queue : QueueState) (found status : Status) : Type 0 where
  Ends : has_ended status ≡ true → MayGet queue found status
  Rested : rests_at found ≡ true → MayGet queue found status
  HasRoom : not (has_ended found) ≡ true → count_in_flight queue.entries < rows.most_in_flight → MayGet queue found status

status-keeps : (number : ℕ) (entry : Entry) (status : Status) (queue : QueueState) → entry_numbered number queue.entries ≡ Some entry
    → MayGet queue entry.status status → IsQueue queue → IsQueue (rows.set_status number status entry queue)
status-keeps number entry status queue there may kept = sets-keeps number new queue (omega (arith, as_many, kept.in_flight)) (resting may) kept
  where
    new : Entry
    new = record entry { status = status }

    flies : MayGet queue entry.status status → not (has_ended status) ≡ true → not (has_ended entry.status) ≡ true
    flies h1 open_still = grind arith

    as_many : count_in_flight (with_entry number new queue.entries) ≤ count_in_flight queue.entries
    as_many =
        omega (
          arith,
          count-with_entry (λ e. is_in_flight e.1) number entry new queue.entries there,
          one_le (is_in_flight new) (is_in_flight entry) (λ h. both_true (and-first entry.begun _ h) (flies may (and-second entry.begun _ h))),
        )

    rests : (is_resting new ≡ true → is_resting entry ≡ true) → count_resting (with_entry number new queue.entries) < rows.most_in_flight
    rests on = omega (arith, count-with_entry (λ e. is_resting e.1) number entry new queue.entries there, one_le (is_resting new) (is_resting entry) on, kept.resting)

    resting : MayGet queue entry.status status → count_resting (with_entry number new queue.entries) < rows.most_in_flight
    resting (Ends ended) = rests (λ h. absurd (true≢false (sym (and-second entry.begun _ (and-first _ _ h)) ∙ ap not ended)))
    resting (Rested rested) =
        rests (λ h. ap (λ b. (b && not (has_ended entry.status)) && not (is_running entry.status)) (and-first entry.begun _ (and-first _ _ h)) ∙ rested)
    resting (HasRoom flew room) =
        omega (arith, count_le (λ e. is_resting e.1) (λ e. is_in_flight e.1) (λ e h. and-first (is_in_flight e.1) (not (is_running e.1.status)) h) (with_entry number new queue.entries), as_many, room)

pub finish_entry-keeps : (number : ℕ) (end : End) (queue : QueueState) → IsQueue queue → IsQueue (rows.finish_entry number end queue)
finish_entry-keeps number end queue kept = at_found (entry_numbered number queue.entries) refl end
  where
    at_found : (found : Option Entry) → entry_numbered number queue.entries ≡ found → (end : End) → IsQueue (rows.finish_entry_at found number end queue)
    at_found None there end = kept
    at_found (Some entry) there ends.Completed = status-keeps number entry statuses.Completed queue there (Ends refl) kept
    at_found (Some entry) there ends.Aborted = status-keeps number entry statuses.Aborted queue there (Ends refl) kept

-- so it is of what a command makes of an entry, where that is another status
abbrev MayMake : QueueState → Status → Result EntryChange Refusal → Type 0
MayMake queue found (Ok (changes.Status status)) = MayGet queue found status
MayMake queue found other = Unit {0}

-- so it is of each command
may_make : (command : EntryCommand) (queue : QueueState) (found : Status) → is_legal command found ≡ true → MayMake queue found (rows.change_of command queue)
may_make command queue found legal = grind arith

change-keeps : (number : ℕ) (entry : Entry) (queue : QueueState) (change : EntryChange) → entry_numbered number queue.entries ≡ Some entry
    → MayMake queue entry.status (Ok change) → IsQueue queue → IsQueue (rows.with_entries (changed change number entry queue.entries) queue)
change-keeps number entry queue (changes.Status status) there may kept = status-keeps number entry status queue there may kept
change-keeps number entry queue (changes.Priority priority) there may kept =
    put_back-keeps (place_of priority (without_entry number queue.entries)) number priority entry queue there kept
change-keeps number entry queue (changes.Index index) there may kept = put_back-keeps index number entry.priority entry queue there kept
change-keeps number entry queue changes.Removal there may kept =
    fewer-keeps (without_entry number queue.entries) queue (distinct_without number entry queue.entries there kept.distinct).1
    (λ test. omega (arith, count-without (λ e. test e.0 e.1.status e.1.begun) number entry queue.entries there)) kept

pub commanded-keeps : (command : EntryCommand) (number : ℕ) (queue : QueueState) → IsQueue queue → IsQueue (rows.commanded command number queue).0
commanded-keeps command number queue kept = by (rows.commanded command number queue) (commanded_is command number queue)
  where
    by : (answer : rows.QueueAnswer (Unit {0})) → Commanded command number queue answer → IsQueue answer.0
    by (new, Err refusal) same = subst IsQueue (sym same) kept
    by (new, Ok done) it =
        subst IsQueue (sym it.is)
        (change-keeps number it.entry queue it.change it.there
        (subst (MayMake queue it.entry.status) it.makes (may_make command queue it.entry.status it.legal)) kept)

-- The entry that comes next runs: where the most are in flight it was in flight before, and else there is room for it.
pub begun-keeps : (e : ℕ × Entry) (queue : QueueState) → rows.next_to_run queue.entries ≡ Some e → IsQueue queue
    → IsQueue (rows.with_entries (with_entry e.0 (rows.begun_entry e.1) queue.entries) queue)
begun-keeps e queue next kept =
    sets-keeps e.0 new queue (at_room (nat_le rows.most_in_flight (count_in_flight queue.entries)) refl next)
    (omega (arith, count-with_entry_le (λ e. is_resting e.1) e.0 new queue.entries, kept.resting)) kept
  where
    new : Entry
    new = rows.begun_entry e.1

    in_flight : (status : Status) (begun : Bool) → is_waiting status && begun ≡ true → begun && not (has_ended status) ≡ true
    in_flight status begun h = grind arith

    at_room : (full : Bool) → nat_le rows.most_in_flight (count_in_flight queue.entries) ≡ full
        → (if full then first_to_go_on queue.entries else first_waiting queue.entries) ≡ Some e → count_in_flight (with_entry e.0 new queue.entries) ≤ rows.most_in_flight
    at_room true is found =
        let there = first_is_numbered (λ y. is_waiting y.1.status && y.1.begun) queue.entries e kept.distinct found in
        let flew : is_in_flight e.1 ≡ true = in_flight e.1.status e.1.begun there.0 in
        omega (arith, count-with_entry (λ e. is_in_flight e.1) e.0 e.1 new queue.entries there.1, ap one flew, kept.in_flight)
    at_room false is found =
        let room : count_in_flight queue.entries < rows.most_in_flight = grind (arith, rules, is) in
        omega (arith, count-with_entry_le (λ e. is_in_flight e.1) e.0 new queue.entries, room)

pub begin-keeps : (queue : QueueState) → IsQueue queue → IsQueue (rows.begin queue).0
begin-keeps queue kept = at_held queue.held
  where
    at_next : (found : Option (ℕ × Entry)) → rows.next_to_run queue.entries ≡ found → IsQueue (rows.begin_with found queue).0
    at_next None is = kept
    at_next (Some e) is = begun-keeps e queue is kept

    at_held : (held : Bool) → IsQueue (rows.begin_with (if held then None else rows.next_to_run queue.entries) queue).0
    at_held held = grind (arith, at_next)

-- a new entry under the next number, where there is room
pub submitted-keeps : (priority : ℕ) (queue : QueueState) → length queue.entries < rows.most_entries → IsQueue queue → IsQueue (rows.submitted priority queue).0
submitted-keeps priority queue room kept =
    let next = queue.last + 1 in
    let new = new_entry priority in
    let place = place_of priority queue.entries in
    record {
      distinct = distinct_insert place next new queue.entries (not_among next queue.entries (absent_above queue.last next queue.entries (omega arith) kept.given)) kept.distinct;
      given = up_to_put_next queue.last new queue.entries kept.given;
      listed = omega (arith, count-all queue.entries, count-all (put next new queue.entries), count-insert (λ e. true) place (next, new) queue.entries, room);
      in_flight = omega (arith, count-insert (λ e. is_in_flight e.1) place (next, new) queue.entries, kept.in_flight);
      resting = omega (arith, count-insert (λ e. is_resting e.1) place (next, new) queue.entries, kept.resting);
    }

pub submit-keeps : (priority : ℤ) (queue : QueueState) → IsQueue queue → IsQueue (rows.submit priority queue).0
submit-keeps priority queue kept = at_closed queue.closed
  where
    at_priority : nat_le rows.most_entries (length queue.entries) ≡ false → (p : Option ℕ) → IsQueue (rows.submitted_at p queue).0
    at_priority room None = kept
    at_priority room (Some p) = submitted-keeps p queue (grind (arith, rules, room)) kept

    at_full : (full last : Bool) → nat_le rows.most_entries (length queue.entries) ≡ full
        → IsQueue (if full || last then rows.refused queue refusals.Full else rows.submitted_at (priority_of priority) queue).0
    at_full full last room = grind (arith, at_priority)

    at_closed : (closed : Bool) → IsQueue (if closed then rows.refused queue refusals.Closed
        else (if rows.is_full queue then rows.refused queue refusals.Full else rows.submitted_at (priority_of priority) queue)).0
    at_closed true = kept
    at_closed false = at_full (nat_le rows.most_entries (length queue.entries)) (nat_eq queue.last rows.last_number) refl
