use Rattle.std.proofs.Common.{◌≡◌, ◌-◌, IsSome}
use Rattle.std.specs.Fn.{FnReturnsAt}
use Rattle.press_debug.specs.declared.debugger.Stop.{Stop}
use Rattle.press_debug.specs.Steps.{DebuggerState}
use Rattle.press_debug.specs.Stops.{ContinuesTo}
use Rattle.press_debug.proofs.debugger.Debugger.go.Given as goal

-- what goes on from here goes so from the start
abbrev pub invariant-loop-step : goal.invariant-loop-step
invariant-loop-step g l = record {
  running : IsSome l.self.stepper.job.machine;
  callable : goal.F-IsAlwaysCallable g l.self.watch.test;
  kept : (l.self.breaks ≡ l.fn.self.breaks) × (l.self.watch ≡ l.fn.self.watch);
  rest : (stop : Stop) (new : DebuggerState)
      → ContinuesTo (FnReturnsAt g.F.Fn l.fn.self.watch.test) l.fn.self.breaks l.self.stepper (l.max - l._step) stop new
      → ContinuesTo (FnReturnsAt g.F.Fn l.fn.self.watch.test) l.fn.self.breaks l.fn.self.stepper l.max stop new;
}
