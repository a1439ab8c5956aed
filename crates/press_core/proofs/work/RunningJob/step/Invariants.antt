use Rattle.std.proofs.Common.{◌≡◌, List}
use Rattle.press_engine.specs.Machine.{StepResult}
use Rattle.press_core.specs.Jobs.{IsAt, still_to_come}
use Rattle.press_core.proofs.work.RunningJob.step.Given as goal

-- the job stands where it stood
abbrev pub invariant-loop-step : goal.invariant-loop-step
invariant-loop-step l = record {
  stands : (items : List StepResult) → IsAt items l.images l.fn.self → IsAt items l.images l.self;
  steps : l.self.steps ≡ l.fn.self.steps;
}

abbrev pub decreases-loop-step : goal.decreases-loop-step
decreases-loop-step l = still_to_come l.self l.images
