use Rattle.std.proofs.Common.{length}
use Rattle.press_stream.proofs.ItemsLeft.{items_left}
use Rattle.press_trace.proofs.Telling.{Since}
use Rattle.press_trace.proofs.tracing.tell_steps.Given as goal

-- the lines of the steps so far were written
abbrev pub invariant-loop-line : goal.invariant-loop-line
invariant-loop-line g l = Since l.fn.by l.fn.tracer (g.W.WriteDevice.contents l.fn.out) l.tracer (g.W.WriteDevice.contents l.out)

abbrev pub decreases-loop-line : goal.decreases-loop-line
decreases-loop-line g l = length (items_left l.tracer.job)
