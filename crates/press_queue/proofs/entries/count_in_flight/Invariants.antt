use Rattle.std.proofs.Common.{◌≡◌, ◌≤◌, ◌+◌, length}
use Rattle.press_queue.specs.Entries.{count_in_flight}
use Rattle.press_queue.proofs.entries.count_in_flight.Given as goal

abbrev pub invariant-loop-entry : goal.invariant-loop-entry
invariant-loop-entry l = record {
  counted : l.count + count_in_flight l.entry-iterator ≡ count_in_flight l.entries.entries;
  bound : l.count + length l.entry-iterator ≤ length l.entries.entries;
}
