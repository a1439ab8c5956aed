use Rattle.std.proofs.Common.{◌≡◌}
use Rattle.press_queue.specs.Entries.{first_waiting}
use Rattle.press_queue.proofs.entries.first_waiting.Given as goal

abbrev pub invariant-loop-number : goal.invariant-loop-number
invariant-loop-number l = first_waiting l.number-iterator ≡ first_waiting l.entries.entries
