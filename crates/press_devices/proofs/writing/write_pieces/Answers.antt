use Rattle.std.proofs.Common.{sym, subst}
use Rattle.std.proofs.KnownBytes.{Appends-trans}
use Rattle.std.proofs.lemmas.Result.{MatchResult-from_err}
use Rattle.press_devices.specs.Writing.{AppendsPrefix}
use Rattle.press_devices.proofs.WritesLemmas.{pieces_next, prefix_then, prefix_more}
use Rattle.press_devices.proofs.writing.write_pieces.Goals as goal

pub returns-in_err-write_whole-clause-written : goal.returns-in_err-write_whole-clause-written
returns-in_err-write_whole-clause-written g c =
    let ((done, split, wrote), stays) = c.loop-piece.invariant in
    let all = pieces_next c.args.pieces.now c.loop-piece.piece-index _ done c.loop-piece-test.true split in
    MatchResult-from_err _ _ _ c.from_residual.ensures.0
    (λ _. subst (AppendsPrefix _ _) (sym all) (prefix_more _ _ _ _ (prefix_then _ _ _ _ _ wrote c.in_err-write_whole.ensures.written)))

pub loop-piece-preserved : goal.loop-piece-preserved
loop-piece-preserved g c =
    let ((done, split, wrote), stays) = c.loop-piece.invariant in (
      (_, pieces_next c.args.pieces.now c.loop-piece.piece-index _ done c.loop-piece-test.true split, Appends-trans _ _ _ _ _ wrote c.in_ok-write_whole.ensures.written),
      λ was. c.in_ok-write_whole.ensures.stays (stays was),
    )
