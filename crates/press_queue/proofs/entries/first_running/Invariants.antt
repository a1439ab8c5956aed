use Rattle.std.proofs.Common.{◌≡◌}
use Rattle.press_queue.specs.Entries.{first_running}
use Rattle.press_queue.proofs.entries.first_running.Given as goal

abbrev pub invariant-loop-number : goal.invariant-loop-number
invariant-loop-number l = first_running l.number-iterator ≡ first_running l.entries.entries
