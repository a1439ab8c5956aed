use Rattle.std.proofs.Common.{◌≡◌, ◌++◌, length}
use Rattle.press_trace.specs.Spelled.{spelled}
use Rattle.press_trace.proofs.spelled.spelled.Given as goal

-- what is behind, spelled, is what is missing
abbrev pub invariant-loop-rest : goal.invariant-loop-rest
invariant-loop-rest l = l.bytes.items ++ spelled l.rest ≡ spelled l.fn.text.items

-- what is behind shrinks
abbrev pub decreases-loop-rest : goal.decreases-loop-rest
decreases-loop-rest l = length l.rest
