use Rattle.std.proofs.Common.{drop, Result}
use Rattle.press_sink.specs.SinkLog.{SinkLog, logs, HasFaultRoom}
use Rattle.press_sink.specs.Sending.{WentOut}
use Rattle.press_engine.specs.Engine.{ending_of}
use Rattle.press_table.specs.Outputs.{all_outputs}
use Rattle.press_engine.specs.declared.fault.EngineError.{EngineError}
use Rattle.press_engine.proofs.sender.send_all.Given as goal

-- what goes out of the parts that are left goes out of all
abbrev pub invariant-loop-part : goal.invariant-loop-part
invariant-loop-part g l = record {
  has_fault_room : HasFaultRoom (logs (g.S.SheetSink.told l.sheets) (g.R.ReplySink.told l.replies));
  rest : (result : Result (Unit {0}) EngineError) (after : SinkLog)
      → WentOut l.tag (all_outputs (drop l.part-index l.sent)) (ending_of result)
      (logs (g.S.SheetSink.told l.sheets) (g.R.ReplySink.told l.replies)) after
      → WentOut l.tag (all_outputs l.sent) (ending_of result) (logs (g.S.SheetSink.told l.fn.sheets) (g.R.ReplySink.told l.fn.replies))
      after;
}
