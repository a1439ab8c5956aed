-- A job as callers see it.
use Rattle.std.specs.Prelude.{◌≡◌, ◌≤◌, ◌+◌, ℕ, List, [], ◌++◌, Bool, true, false, Option, Some, None, IsSome, length, if◌then◌else◌}
use Rattle.press_cmd.specs.ParserState.{Exit}
use Rattle.press_cmd.specs.Split.{NoHead}
use Rattle.press_scan.specs.ScannerState.{ScannerState, buffer_size}
use Rattle.press_scan.specs.Sequences.{longest_rest}
use Rattle.press_engine.specs.declared.engine.Engine.{Engine}
use Rattle.press_engine.specs.declared.activation.Activation.{Activation}
use Rattle.press_engine.specs.declared.machine.Machine.{Machine}
use Rattle.press_engine.specs.Engine as engines
use Rattle.press_engine.specs.Engine.{machine_of}
use Rattle.press_engine.specs.Machine.{power_on}
use Rattle.press_stream.specs.declared.phase.Phase.{Phase}
use Rattle.press_stream.specs.declared.phase.Phase.TheVariants as phases

-- What its scanner holds; its machine, and none once the job has failed; the bodies that run, the innermost first; and
-- whether the universal exit that is added at the end of the stream was taken.
pub record JobState : Type 0 where
  pub held : ScannerState
  pub machine : Option Machine
  pub bodies : List Activation
  pub exited : Bool

-- a job at the beginning of a stream
abbrev pub opened : JobState
opened = record {
  held = record { mode = Exit; bytes = []; ended = false; room = buffer_size };
  machine = Some power_on;
  bodies = [];
  exited = false;
}

-- with a piece behind what it holds
abbrev pub with_piece : List ℕ → JobState → JobState
with_piece piece job = record job { held = record job.held { bytes = job.held.bytes ++ piece } }

-- with the end of input given
abbrev pub input_ended : JobState → JobState
input_ended job = record job { held = record job.held { ended = true } }

-- The commands of the bytes so far are carried out, with the bodies that they start, and more bytes may come.
pub record NeedsInput (job : JobState) : Type 0 where
  pub running : IsSome job.machine
  pub idle : job.bodies ≡ []
  pub going : job.held.ended ≡ false
  pub short : NoHead job.held.mode job.held.bytes
  pub few : length job.held.bytes ≤ longest_rest

-- No step is left: the job has not failed, the end of input was given, nothing is held, the added universal exit was taken,
-- and no body runs.
pub record IsOver (job : JobState) : Type 0 where
  pub running : IsSome job.machine
  pub idle : job.bodies ≡ []
  pub ended : job.held.ended ≡ true
  pub nothing : job.held.bytes ≡ []
  pub exited : job.exited ≡ true

-- the job has not failed, and the end of input was given
abbrev pub IsAfterEnd : JobState → Type 0
IsAfterEnd job = IsSome job.machine × (job.held.ended ≡ true)

-- so many commands of the stream are left at most, where no more bytes come
abbrev pub most_commands : JobState → ℕ
most_commands job = length job.held.bytes + (if job.exited then 0 else 1)

-- the machine of an engine in a phase
abbrev pub machine_in : Phase → Engine → Option Machine
machine_in phases.Failed engine = None
machine_in phases.Running engine = machine_of engine
machine_in phases.Exited engine = machine_of engine

-- the bodies that run in it
abbrev pub bodies_in : Phase → Engine → List Activation
bodies_in phases.Failed engine = []
bodies_in phases.Running engine = engines.bodies engine
bodies_in phases.Exited engine = engines.bodies engine

abbrev pub is_exited : Phase → Bool
is_exited phases.Exited = true
is_exited phases.Running = false
is_exited phases.Failed = false

-- what scanner, engine and phase stand for
abbrev pub job_state : ScannerState → Engine → Phase → JobState
job_state held engine phase = record {
  held = held;
  machine = machine_in phase engine;
  bodies = bodies_in phase engine;
  exited = is_exited phase;
}

-- A job that runs has a machine, and its scanner a buffer of the full size. After the added universal exit it has a machine, nothing is
-- held, and the end of input was given. Of a job that has failed nothing is said.
abbrev pub Fits : ScannerState → Engine → Phase → Type 0
Fits held engine phases.Failed = Unit {0}
Fits held engine phases.Running = IsSome (machine_of engine) × (held.room ≡ buffer_size)
Fits held engine phases.Exited = IsSome (machine_of engine) × (held.ended ≡ true) × (held.bytes ≡ [])
