use Rattle.std.proofs.Common.{◌≡◌, false, take}
use Rattle.std.specs.List.{flat_map}
use Rattle.press_sink.specs.SinkLog.{logs, HasFaultRoom, under}
use Rattle.press_sink.specs.Sending.{Complete, HandsOut}
use Rattle.press_stream.specs.State.{opened}
use Rattle.press_stream.specs.Meaning.{CarriesOn}
use Rattle.press_stream.specs.Calls.{bytes_of}
use Rattle.press_stream.proofs.calls.print_calls.Given as goal

-- the job has gone on with the bytes so far
abbrev pub invariant-loop-call : goal.invariant-loop-call
invariant-loop-call g l =
    let before = logs (g.S.SheetSink.told l.initial.sheets) (g.P.ReplySink.told l.initial.replies) in
    let after = logs (g.S.SheetSink.told l.sheets) (g.P.ReplySink.told l.replies) in
    record {
      goes : HandsOut Complete (CarriesOn opened (flat_map bytes_of (take l.call-index l.calls)) l.job) (under l.tag before after);
      going : l.job.held.ended ≡ false;
      has_fault_room : HasFaultRoom after;
    }
