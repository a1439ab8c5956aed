use Rattle.std.proofs.Common.{◌≡◌, ◌+◌, length}
use Rattle.press_queue.specs.Entries.{place_of}
use Rattle.press_queue.proofs.entries.place_of.Given as goal

abbrev pub invariant-loop-entry : goal.invariant-loop-entry
invariant-loop-entry l = record {
  found : l.place + place_of l.priority l.entry-iterator ≡ place_of l.priority l.entries.entries;
  count : l.place + length l.entry-iterator ≡ length l.entries.entries;
}
