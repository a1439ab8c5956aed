use Rattle.std.proofs.Common.{◌≡◌, IsSome, length}
use Rattle.press_scan.specs.ScannerState.{buffer_size}
use Rattle.press_engine.specs.Engine.{machine_of}
use Rattle.press_stream.specs.Answers.{PassesOn}
use Rattle.press_stream.specs.State.{job_state}
use Rattle.press_stream.specs.declared.phase.Phase.TheVariants.{Running}
use Rattle.press_stream.proofs.carrying.take_on.Given as goal

-- the job has gone on by commands that did no more than change the machine
abbrev pub invariant-loop-step : goal.invariant-loop-step
invariant-loop-step l = record {
  goes : PassesOn (job_state l.fn.scanner l.fn.engine Running) (job_state l.scanner l.engine Running);
  running : IsSome (machine_of l.engine);
  room : l.scanner.room ≡ buffer_size;
  phase : l.phase ≡ Running;
}

abbrev pub decreases-loop-step : goal.decreases-loop-step
decreases-loop-step l = length l.scanner.bytes
