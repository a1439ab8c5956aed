use Rattle.std.proofs.Common.{◌≡◌, false}
use Rattle.press_tests_commands.proofs.scanner.take_bytes.Given as goal

abbrev pub invariant-loop-byte : goal.invariant-loop-byte
invariant-loop-byte l = l.scanner.ended ≡ false
