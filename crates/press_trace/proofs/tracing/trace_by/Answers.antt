use Rattle.std.proofs.Common.{arith}
use Rattle.press_units.proofs.ExitLemmas.{exit-is}
use Rattle.press_trace.proofs.Telling.{end_stopped, end_told, flushed, not_begun, not_flushed}
use Rattle.press_trace.proofs.tracing.trace_by.Goals as goal

pub returns-in_err-tracer-clause-stops : goal.returns-in_err-tracer-clause-stops
returns-in_err-tracer-clause-stops g c = grind (arith, exit-is, not_begun)

pub returns-in_err-tell_steps-clause-stops : goal.returns-in_err-tell_steps-clause-stops
returns-in_err-tell_steps-clause-stops g c =
    rw (exit-is c.from_residual-in_err-tell_steps.ensures.1)
    (end_stopped c.args.by _ _ _ _ c.tell_pieces.new.tracer c.in_ok-tell_pieces.ensures.told c.end_input.new.self c.end_input.ensures
    c.in_err-tell_steps.field-0.0 c.tell_steps.new.tracer _ c.in_err-tell_steps.ensures.further)

pub returns-in_err-tell_steps-clause-unread : goal.returns-in_err-tell_steps-clause-unread
returns-in_err-tell_steps-clause-unread g c = grind (arith, exit-is)

pub returns-in_err-flush_all-clause-stops : goal.returns-in_err-flush_all-clause-stops
returns-in_err-flush_all-clause-stops g c =
    rw (exit-is c.from_residual-in_err-flush_all.ensures.1)
    (not_flushed c.args.by _ _ _ _ _ _
    (end_told c.args.by _ _ _ _ c.tell_pieces.new.tracer c.in_ok-tell_pieces.ensures.told c.end_input.new.self c.end_input.ensures
    c.tell_steps.new.tracer _ c.in_ok-tell_steps.ensures.further)
    c.flush_all.ensures.bytes)

pub returns-clause-traces : goal.returns-clause-traces
returns-clause-traces g c =
    flushed c.args.by _ _ _ _ _
    (end_told c.args.by _ _ _ _ c.tell_pieces.new.tracer c.in_ok-tell_pieces.ensures.told c.end_input.new.self c.end_input.ensures
    c.tell_steps.new.tracer _ c.in_ok-tell_steps.ensures.further)
    c.flush_all.ensures.bytes
