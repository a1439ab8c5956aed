use Rattle.std.proofs.Common.{◌≡◌, ◌≤◌, [], length}
use Rattle.press_sink.specs.SinkLog.{logs, HasFaultRoom, under}
use Rattle.press_sink.specs.Sending.{Complete, HandsOut}
use Rattle.press_stream.specs.State.{most_commands}
use Rattle.press_stream.specs.Meaning.{CarriesOn}
use Rattle.press_stream.proofs.RunningOut.{still_owed}
use Rattle.press_stream.proofs.job.Job.run_out.Given as goal

-- the job has gone on by some items of the bodies that run
abbrev pub invariant-loop-self : goal.invariant-loop-self
invariant-loop-self g l =
    record {
      goes : HandsOut Complete (CarriesOn l.initial.self [] l.self)
          (under l.tag (logs (g.S.SheetSink.told l.initial.sheets) (g.P.ReplySink.told l.initial.replies))
          (logs (g.S.SheetSink.told l.sheets) (g.P.ReplySink.told l.replies)));
      fewer : most_commands l.self ≤ most_commands l.initial.self;
      still : l.self.held.ended ≡ l.initial.self.held.ended;
      has_fault_room : HasFaultRoom (logs (g.S.SheetSink.told l.sheets) (g.P.ReplySink.told l.replies));
    }

-- so many items are left of them
abbrev pub decreases-loop-self : goal.decreases-loop-self
decreases-loop-self g l = length (still_owed l.self)
