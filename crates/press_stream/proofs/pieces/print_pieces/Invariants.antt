use Rattle.std.proofs.Common.{◌≡◌, false, take}
use Rattle.std.specs.List.{flat_map}
use Rattle.press_sink.specs.SinkLog.{logs, HasFaultRoom, under}
use Rattle.press_sink.specs.Sending.{Complete, HandsOut}
use Rattle.press_stream.specs.State.{opened}
use Rattle.press_stream.specs.Meaning.{CarriesOn}
use Rattle.press_stream.proofs.pieces.print_pieces.Given as goal

-- the job has gone on with the bytes so far
abbrev pub invariant-loop-piece : goal.invariant-loop-piece
invariant-loop-piece g l =
    let before = logs (g.S.SheetSink.told l.initial.sheets) (g.P.ReplySink.told l.initial.replies) in
    let after = logs (g.S.SheetSink.told l.sheets) (g.P.ReplySink.told l.replies) in
    record {
      goes : HandsOut Complete (CarriesOn opened (flat_map (λ piece. piece.now) (take l.piece-index l.pieces)) l.job) (under l.tag before after);
      going : l.job.held.ended ≡ false;
      has_fault_room : HasFaultRoom after;
    }
