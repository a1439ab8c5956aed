use Rattle.std.proofs.Common.{◌≡◌}
use Rattle.press_core.proofs.AbortLemmas.{aborted_so_far}
use Rattle.press_core.proofs.press.Press.abort_running.Given as goal

-- the entries of the engines so far are aborted
abbrev pub invariant-loop-engine : goal.invariant-loop-engine
invariant-loop-engine l = l.self ≡ aborted_so_far l.engine l.initial.self
