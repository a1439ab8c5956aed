use Rattle.std.proofs.Common.{◌-◌, ◌<◌, Result}
use Rattle.press_sink.specs.SinkLog.{SinkLog, logs, HasFaultRoom, TookLast}
use Rattle.press_sink.specs.Sending.{WentOut}
use Rattle.press_engine.specs.Engine.{ending_of}
use Rattle.press_table.specs.Outputs.{copies_out}
use Rattle.press_engine.specs.declared.fault.EngineError.{EngineError}
use Rattle.press_engine.proofs.sender.send_copies.Given as goal

-- what goes out of the copies that are left goes out of all
abbrev pub invariant-loop-copy : goal.invariant-loop-copy
invariant-loop-copy g l =
    record {
      has_fault_room : HasFaultRoom (logs (g.S.SheetSink.told l.sheets) (g.R.ReplySink.told l.replies));
      rest : (result : Result (Unit {0}) EngineError) (after : SinkLog)
          → WentOut l.tag (copies_out l.finished.sheet (l.finished.copies - l.copy) l.count) (ending_of result)
          (logs (g.S.SheetSink.told l.sheets) (g.R.ReplySink.told l.replies)) after
          → WentOut l.tag (copies_out l.finished.sheet l.finished.copies l.finished.since_job) (ending_of result)
          (logs (g.S.SheetSink.told l.fn.sheets) (g.R.ReplySink.told l.fn.replies)) after;
      last : 0 < l.copy → TookLast (g.S.SheetSink.told l.sheets) (record { tag = l.tag; sheet = l.finished.sheet });
    }
