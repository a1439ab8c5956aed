use Rattle.std.proofs.Common.{◌≤◌, length, take, arith}
use Rattle.std.proofs.lemmas.List.{length-take}
use Rattle.press_units.proofs.ExitLemmas.{exit-is}
use Rattle.press_trace.proofs.Telling.{none_read, piece_few, piece_not_held, piece_stopped, piece_told, read_failed}
use Rattle.press_trace.proofs.tracing.tell_pieces.Goals as goal

pub loop-length-init : goal.loop-length-init
loop-length-init g c = grind (arith, none_read)

pub returns-in_err-length-clause-stops : goal.returns-in_err-length-clause-stops
returns-in_err-length-clause-stops g c =
    rw (exit-is c.from_residual.ensures.1)
    (read_failed c.args.by _ _ _ _ c.loop-length.tracer c.loop-length.invariant.so_far _ c.in_err-length.ensures.piece)

pub returns-in_err-push-clause-stops : goal.returns-in_err-push-clause-stops
returns-in_err-push-clause-stops g c =
    rw (exit-is c.from_residual-in_err-push.ensures.1)
    (piece_not_held c.args.by _ _ _ _ c.loop-length.tracer c.loop-length.invariant.so_far _ (take c.in_ok-length.length c.read_next.new.piece)
    c.in_ok-length.ensures.piece.1)

pub returns-in_err-tell_steps-clause-stops : goal.returns-in_err-tell_steps-clause-stops
returns-in_err-tell_steps-clause-stops g c =
    rw (exit-is c.from_residual-in_err-tell_steps.ensures.1)
    (piece_stopped c.args.by _ _ _ _ c.loop-length.tracer c.loop-length.invariant.so_far _ (take c.in_ok-length.length c.read_next.new.piece)
    c.in_ok-length.ensures.piece.1 c.push.new.self c.in_ok-push.ensures.pushed c.in_err-tell_steps.field-0.0 c.tell_steps.new.tracer _
    c.in_err-tell_steps.ensures.further)

pub returns-in_err-tell_steps-clause-unread : goal.returns-in_err-tell_steps-clause-unread
returns-in_err-tell_steps-clause-unread g c = grind (arith, exit-is)

pub loop-length-preserved : goal.loop-length-preserved
loop-length-preserved g c =
    let invariant = c.loop-length.invariant in
    let piece = take c.in_ok-length.length c.read_next.new.piece in
    let short : length piece ≤ 16384 = omega (arith, length-take c.in_ok-length.length c.read_next.new.piece, c.in_ok-length.ensures.piece.0, c.read_next.ensures.room) in
    record {
      so_far =
          piece_told c.args.by _ _ _ _ c.loop-length.tracer invariant.so_far _ piece c.in_ok-length.ensures.piece.1 c.push.new.self c.in_ok-push.ensures.pushed
          c.tell_steps.new.tracer _ c.in_ok-tell_steps.ensures.further;
      counted = c.read_next.ensures.told invariant.counted;
      most = omega (arith, c.read_next.ensures.bound, invariant.most);
      few =
          piece_few c.args.by _ _ _ _ c.loop-length.tracer invariant.so_far _ piece c.in_ok-length.ensures.piece.1 c.push.new.self c.in_ok-push.ensures.pushed
          c.tell_steps.new.tracer _ c.loop-length.count.reads c.read_next.new.count.reads c.in_ok-tell_steps.ensures.further invariant.few c.in_ok-length.ensures.counted short;
    }
