use Rattle.std.proofs.Common.{◌≡◌, length}
use Rattle.press_tests_commands.proofs.scanner.drain.Given as goal

abbrev pub invariant-loop-command : goal.invariant-loop-command
invariant-loop-command l = l.scanner.ended ≡ l.initial.scanner.ended

abbrev pub decreases-loop-command : goal.decreases-loop-command
decreases-loop-command l = length l.scanner.bytes
