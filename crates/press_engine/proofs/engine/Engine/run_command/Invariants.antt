use Rattle.std.proofs.Common.{◌≢◌, Option, None, Result}
use Rattle.press_cmd.specs.View.{token}
use Rattle.press_sink.specs.SinkLog.{SinkLog, logs, HasFaultRoom, under}
use Rattle.press_engine.specs.declared.fault.EngineError.{EngineError}
use Rattle.press_engine.specs.declared.machine.Machine.{Machine}
use Rattle.press_engine.specs.Engine.{machine_of, bodies, Runs, NeedsMemory}
use Rattle.press_engine.specs.Stack.{continuation, HasNext}
use Rattle.press_engine.proofs.WholeLemmas.{LeavesAll, steps_owed}
use Rattle.press_engine.proofs.engine.Engine.run_command.Given as goal

-- what carries out the steps that are still owed carries out the command
abbrev pub invariant-loop-self : goal.invariant-loop-self
invariant-loop-self g l = record {
  has_fault_room : HasFaultRoom (logs (g.S.SheetSink.told l.sheets) (g.R.ReplySink.told l.replies));
  alive : machine_of l.self ≢ None;
  lives : machine_of l.fn.self ≢ None;
  memory : HasNext (bodies l.self) → NeedsMemory (machine_of l.fn.self) (token l.fn.command);
  rest : (result : Result (Unit {0}) EngineError) (new : Option Machine) (after : SinkLog)
      → LeavesAll (machine_of l.self) (continuation (bodies l.self)) l.tag result new
      (logs (g.S.SheetSink.told l.sheets) (g.R.ReplySink.told l.replies)) after
      → Runs (machine_of l.fn.self) (token l.fn.command) result new
      (under l.tag (logs (g.S.SheetSink.told l.fn.sheets) (g.R.ReplySink.told l.fn.replies)) after);
}

abbrev pub decreases-loop-self : goal.decreases-loop-self
decreases-loop-self g l = steps_owed (machine_of l.self) (continuation (bodies l.self))
