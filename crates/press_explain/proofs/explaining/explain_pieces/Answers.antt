use Rattle.std.proofs.Common.{◌≤◌, length, take, arith}
use Rattle.std.proofs.lemmas.List.{length-take}
use Rattle.press_units.proofs.ExitLemmas.{exit-is}
use Rattle.press_explain.proofs.ReadLemmas.{piece_few, piece_not_held, piece_stopped, piece_told}
use Rattle.press_explain.proofs.explaining.explain_pieces.Goals as goal

pub returns-in_err-push-clause-stops : goal.returns-in_err-push-clause-stops
returns-in_err-push-clause-stops g c =
    rw (exit-is c.from_residual-in_err-push.ensures.1)
    (piece_not_held _ _ _ _ c.loop-length.explainer c.loop-length.invariant.so_far _ (take c.in_ok-length.length c.read_next.new.piece)
    c.in_ok-length.ensures.piece.1)

pub returns-in_err-explain_held-clause-stops : goal.returns-in_err-explain_held-clause-stops
returns-in_err-explain_held-clause-stops g c =
    rw (exit-is c.from_residual-in_err-explain_held.ensures.1)
    (piece_stopped _ _ _ _ c.loop-length.explainer c.loop-length.invariant.so_far _ (take c.in_ok-length.length c.read_next.new.piece)
    c.in_ok-length.ensures.piece.1 c.push.new.self c.in_ok-push.ensures.pushed c.in_err-explain_held.field-0.0 c.explain_held.new.explainer _
    c.in_err-explain_held.ensures.held)

pub loop-length-preserved : goal.loop-length-preserved
loop-length-preserved g c =
    let invariant = c.loop-length.invariant in
    let piece = take c.in_ok-length.length c.read_next.new.piece in
    let short : length piece ≤ 16384 = omega (arith, length-take c.in_ok-length.length c.read_next.new.piece, c.in_ok-length.ensures.piece.0, c.read_next.ensures.room) in
    record {
      so_far =
          piece_told _ _ _ _ c.loop-length.explainer invariant.so_far _ piece c.in_ok-length.ensures.piece.1 c.push.new.self c.in_ok-push.ensures.pushed
          c.explain_held.new.explainer _ c.in_ok-explain_held.ensures.held;
      sound = c.in_ok-explain_held.ensures.sound;
      counted = c.read_next.ensures.told invariant.counted;
      most = omega (arith, c.read_next.ensures.bound, invariant.most);
      few =
          piece_few _ _ _ _ c.loop-length.explainer invariant.so_far _ piece c.in_ok-length.ensures.piece.1 c.push.new.self c.in_ok-push.ensures.pushed
          c.explain_held.new.explainer _ c.loop-length.count.reads c.read_next.new.count.reads c.in_ok-explain_held.ensures.held invariant.few c.in_ok-length.ensures.counted short;
    }
