use Rattle.std.proofs.Common.{◌≡◌, ◌+◌, ◌≤◌, length, take}
use Rattle.std.specs.List.{suffix_len}
use Rattle.press_cmd.specs.Language.{is_white}
use Rattle.press_cmd.proofs.pjl.trimmed_end.Given as goal

abbrev pub invariant-loop-length : goal.invariant-loop-length
invariant-loop-length l = (l.length ≤ length l.bytes) × (l.length + suffix_len is_white l.bytes ≡ length l.bytes + suffix_len is_white (take l.length l.bytes))

abbrev pub decreases-loop-length : goal.decreases-loop-length
decreases-loop-length l = l.length
