-- What a job answers.
use Rattle.std.specs.Prelude.{◌≡◌, ◌≢◌, ◌≤◌, ℕ, List, [], ◌∷◌, ◌++◌, Option, Some, None, IsSome, Result, Ok, Err, true, false, ◌⊎◌, ⊤, ◌↔◌, IsErrOf, IfErr}
use Rattle.std.specs.Io.KnownBytes.{Consumes, IsAtEnd}
use Rattle.press_cmd.specs.Token.{Token, Uel}
use Rattle.press_scan.specs.Gives.{IsDone, IsNext}
use Rattle.press_sink.specs.SinkLog.{SinkLog}
use Rattle.press_sink.specs.Sending.{Output, Ending, Complete, AtSheet, AtReply, ForMemory, Refused, GoesOut, sheet_faults_after, reply_faults_after}
use Rattle.press_engine.specs.Engine.{NeedsMemory, InnerNeedsMemory}
use Rattle.press_engine.specs.Machine.{StepResult}
use Rattle.press_engine.specs.declared.machine.Machine.{Machine}
use Rattle.press_engine.specs.declared.fault.EngineError.{EngineError}
use Rattle.press_engine.specs.declared.fault.EngineError.TheVariants as engine_errors
use Rattle.press_stream.specs.declared.fault.JobError.{JobError}
use Rattle.press_stream.specs.declared.fault.JobError.TheVariants as errors
use Rattle.press_stream.specs.declared.step.Step.{Step}
use Rattle.press_stream.specs.declared.step.Step.TheVariants as answers
use Rattle.press_stream.specs.declared.step.JobStep.{JobStep}
use Rattle.press_stream.specs.declared.step.JobStep.TheVariants as steps
use Rattle.press_stream.specs.State.{JobState, NeedsInput, IsOver, IsAfterEnd, opened, with_piece, most_commands}
use Rattle.press_stream.specs.Steps.{Does, DoesStep}
use Rattle.press_stream.specs.Meaning.{left, CarriesOut, CarriesOn, Stops}
use Rattle.press_stream.specs.Traced.{IsTraceSoFar}

-- an engine's error as a job's
abbrev pub job_error : EngineError → JobError
job_error engine_errors.SinkFault = errors.SinkFault
job_error engine_errors.ReplyFault = errors.ReplyFault
job_error engine_errors.Failed = errors.Failed
job_error engine_errors.NoMemory = errors.NoMemory

-- the error that was answered, if one was
abbrev pub fault_of : {X : Type 0} → Result X JobError → Option JobError
fault_of (Ok _) = None
fault_of (Err error) = Some error

-- How what goes out ends, by the error that was answered. A failed read counts no fault of a sink, so it ends as a refusal does, also
-- where outputs went out before it.
abbrev pub ending_by : Option JobError → Ending
ending_by None = Complete
ending_by (Some errors.SinkFault) = AtSheet
ending_by (Some errors.ReplyFault) = AtReply
ending_by (Some errors.NoMemory) = ForMemory
ending_by (Some _) = Refused

-- A job stopped at a fault, and has failed for good: what went out is as the fault's ending says. A job that had failed
-- before lets nothing out.
abbrev pub FaultsBy : (Ending → List Output → Type 0) → JobState → JobError → JobState → List Output → Type 0
FaultsBy stops old errors.Failed new went = (old.machine ≡ None) × (new ≡ old) × (went ≡ [])
FaultsBy stops old error new went = (new.machine ≡ None) × stops (ending_by (Some error)) went

-- The same of a job with these bytes behind what it held: what went out is so much of what it owed.
abbrev pub Faults : JobState → List ℕ → JobError → JobState → List Output → Type 0
Faults old bytes error new went = FaultsBy (λ ending these. Stops old bytes ending these) old error new went

-- The same, whatever bytes may come behind these: none do after the end of input.
abbrev pub FaultsBefore : JobState → List ℕ → JobError → JobState → List Output → Type 0
FaultsBefore old bytes error new went =
    (more : List ℕ) → (old.held.ended ≡ true → bytes ++ more ≡ []) → Faults old (bytes ++ more) error new went

-- A piece was pushed: it stands behind what was held; or memory ran out, and the job has failed for good; or it was refused,
-- and nothing changed.
abbrev pub Pushes : JobState → List ℕ → Result (Unit {0}) JobError → JobState → Type 0
Pushes old piece (Ok _) new = IsSome old.machine × (old.held.ended ≡ false) × (new ≡ with_piece piece old)
Pushes old piece (Err errors.NoMemory) new = IsSome old.machine × (old.held.ended ≡ false) × (new.machine ≡ None)
Pushes old piece (Err errors.Failed) new = (old.machine ≡ None) × (new ≡ old)
Pushes old piece (Err errors.AfterEnd) new = IsAfterEnd old × (new ≡ old)
Pushes old piece (Err errors.SinkFault) new = ⊥
Pushes old piece (Err errors.ReplyFault) new = ⊥
Pushes old piece (Err errors.ReadFault) new = ⊥

-- whether a job takes more bytes, by what is answered
abbrev pub IsGoing : JobState → Result (Unit {0}) JobError → Type 0
IsGoing job (Ok _) = IsSome job.machine × (job.held.ended ≡ false)
IsGoing job (Err errors.Failed) = job.machine ≡ None
IsGoing job (Err errors.AfterEnd) = IsAfterEnd job
IsGoing job (Err errors.SinkFault) = ⊥
IsGoing job (Err errors.ReplyFault) = ⊥
IsGoing job (Err errors.ReadFault) = ⊥
IsGoing job (Err errors.NoMemory) = ⊥

-- a refusal that comes before anything is read or done
abbrev pub IsEarly : {X : Type 0} → Result X JobError → Type 0
IsEarly (Err errors.Failed) = ⊤
IsEarly (Err errors.AfterEnd) = ⊤
IsEarly _ = ⊥

-- The command of the stream that comes next, where no body runs: the first of what the scanner holds, or the universal exit
-- that is added where nothing is left.
abbrev pub IsDue : JobState → Token → Type 0
IsDue job command =
    (job.bodies ≡ []) × (job.exited ≡ false)
    × (IsNext job.held command ⊎ ((job.held.ended ≡ true) × IsDone job.held × (command ≡ Uel)))

-- what a step takes of the stream: nothing while a body runs, and else the command that comes next
abbrev pub TakesOf : JobState → List Token → Type 0
TakesOf job given =
    ((job.bodies ≢ []) × (given ≡ [])) ⊎ ((command : Token) × IsDue job command × (given ≡ command ∷ []))

-- The item that comes next was begun, and of its outputs these went out, as far as the ending says.
pub record StopsAtDue (job : JobState) (ending : Ending) (went : List Output) : Type 0 where
  pub given : List Token
  pub takes : TakesOf job given
  pub from : Machine
  pub starts : job.machine ≡ Some from
  pub item : StepResult
  pub others : List StepResult
  pub are : left given job.bodies from ≡ item ∷ others
  pub goes : GoesOut ending went item.outputs

-- A table step was taken, and all that goes out in its item went out; or the bytes so far are used up, or no step is left, and nothing
-- changed; or the job stopped at a fault, and what went out is so much of the item that comes next.
abbrev pub Takes : JobState → Result Step JobError → JobState → List Output → Type 0
Takes old (Ok (answers.Ran kind)) new went = (item : StepResult) × Does old item kind new × (went ≡ item.outputs)
Takes old (Ok answers.Hungry) new went = NeedsInput old × (new ≡ old) × (went ≡ [])
Takes old (Ok answers.Ended) new went = IsOver old × (new ≡ old) × (went ≡ [])
Takes old (Err error) new went = FaultsBy (λ ending these. StopsAtDue old ending these) old error new went

-- Hungry is answered exactly where the job has not failed, its end of input was not given, and the commands so far are carried out with
-- their bodies; Ended exactly where no step is left. traced: in a job that was handed these bytes since it was opened and did these items,
-- Hungry is answered exactly where they are the whole trace of the bytes.
pub record StandsStill (old : JobState) (result : Result Step JobError) : Type 0 where
  pub hungry : (result ≡ Ok answers.Hungry) ↔ NeedsInput old
  pub over : (result ≡ Ok answers.Ended) ↔ IsOver old
  pub traced : (bytes : List ℕ) (given : List Token) (items : List StepResult) → CarriesOut opened bytes given items old
      → old.held.ended ≡ false → (result ≡ Ok answers.Hungry) ↔ IsTraceSoFar bytes items

-- no step was taken, and there was no fault
abbrev pub IsStill : Result Step JobError → Type 0
IsStill (Ok (answers.Ran kind)) = ⊥
IsStill (Ok answers.Hungry) = ⊤
IsStill (Ok answers.Ended) = ⊤
IsStill (Err error) = ⊥

-- the job is hungry, or no step is left
abbrev pub IsIdle : JobState → Type 0
IsIdle job = NeedsInput job ⊎ IsOver job

-- what comes next may take memory: the next command of the innermost body that runs, or that of the stream
abbrev pub WantsMemory : JobState → Type 0
WantsMemory job =
    InnerNeedsMemory job.machine job.bodies ⊎ ((command : Token) × IsDue job command × NeedsMemory job.machine command)

-- Ran: a table step was taken, and what goes out in it is answered. Hungry: the bytes so far are used up. Ended: no step is left. Both
-- change nothing. NoMemory: memory ran out where what comes next may take some, and the job has failed for good. Failed: it had before.
abbrev pub TakesStep : JobState → Result JobStep JobError → JobState → Type 0
TakesStep old (Ok (steps.Ran step)) new = DoesStep old step new
TakesStep old (Ok steps.Hungry) new = NeedsInput old × (new ≡ old)
TakesStep old (Ok steps.Ended) new = IsOver old × (new ≡ old)
TakesStep old (Err errors.NoMemory) new = WantsMemory old × (new.machine ≡ None)
TakesStep old (Err errors.Failed) new = (old.machine ≡ None) × (new ≡ old)
TakesStep old (Err errors.SinkFault) new = ⊥
TakesStep old (Err errors.ReplyFault) new = ⊥
TakesStep old (Err errors.ReadFault) new = ⊥
TakesStep old (Err errors.AfterEnd) new = ⊥

-- The job goes on, by commands that it takes, to where what comes next may take memory.
abbrev pub ComesToWant : JobState → Type 0
ComesToWant job = (given : List Token) × (items : List StepResult) × (last : JobState) × CarriesOut job [] given items last × WantsMemory last

-- A job took commands, and nothing goes out in any of them. Where no body runs, they are of its stream, and none runs then. Where one runs,
-- they are of the innermost one, and one still runs.
pub record PassesOn (old new : JobState) : Type 0 where
  pub goes : CarriesOn old [] new []
  pub idle : old.bodies ≡ [] → new.bodies ≡ []
  pub inside : old.bodies ≢ [] → (goes.0 ≡ []) × (new.bodies ≢ [])
  pub fewer : most_commands new ≤ most_commands old
  pub ended : new.held.ended ≡ old.held.ended

-- The same, and then a step was taken.
abbrev pub TakesOn : JobState → Result JobStep JobError → JobState → Type 0
TakesOn old result new = (between : JobState) × PassesOn old between × TakesStep between result new

-- The same, and what goes out in that step went out, as far as the answer says.
abbrev pub StepsOn : JobState → Result Step JobError → JobState → List Output → Type 0
StepsOn old result new went =
    (between : JobState) × PassesOn old between × Takes between result new went × (IsErrOf result errors.NoMemory → WantsMemory between)

-- A job that was handed these bytes carried commands out; or it stopped at a fault, whatever bytes may come.
abbrev pub CarriesOrStops : JobState → List ℕ → Result (Unit {0}) JobError → JobState → List Output → Type 0
CarriesOrStops old bytes (Ok _) new went = CarriesOn old bytes new went
CarriesOrStops old bytes (Err error) new went = FaultsBefore old bytes error new went

-- A piece was handed to a job, which carried out the commands so far; or it was refused after the end of input, and nothing
-- changed.
abbrev pub Feeds : JobState → List ℕ → Result (Unit {0}) JobError → JobState → List Output → Type 0
Feeds old piece (Ok _) new went = CarriesOn old piece new went × NeedsInput new
Feeds old piece (Err errors.AfterEnd) new went = IsAfterEnd old × (new ≡ old) × (went ≡ [])
Feeds old piece (Err error) new went = FaultsBefore old piece error new went

-- The end of input was given to a job, which carried out all that it owed.
abbrev pub Finishes : JobState → Result (Unit {0}) JobError → JobState → List Output → Type 0
Finishes old (Ok _) new went = CarriesOn old [] new went × IsOver new
Finishes old (Err error) new went = Faults old [] error new went

-- What else a call answers, whatever it does.
-- failed: it is 303 exactly where the job had failed. unchanged: where a call is refused before anything is read or done, the job and
-- what the sinks tell stay. lost: any error but 305 leaves a job that has failed. sheet_faults, reply_faults: the sinks count the fault
-- that is answered.
pub record Answered {X : Type 0} (old : JobState) (result : Result X JobError) (new : JobState) (before after : SinkLog) : Type 0 where
  pub failed : IsErrOf result errors.Failed ↔ (old.machine ≡ None)
  pub unchanged : IsEarly result → (new ≡ old) × (after ≡ before)
  pub lost : IfErr result (λ error. error ≢ errors.AfterEnd → new.machine ≡ None)
  pub sheet_faults : after.sheets.faults ≡ sheet_faults_after (ending_by (fault_of result)) before.sheets.faults
  pub reply_faults : after.replies.faults ≡ reply_faults_after (ending_by (fault_of result)) before.replies.faults

-- These bytes were read of a reader and handed to a job, by what the reader had and what it has left: all that it had, where
-- there was no error.
pub record Reads (had left : Option (List ℕ)) (error : Option JobError) (bytes : List ℕ) : Type 0 where
  pub lost : Consumes had left bytes
  pub at_end : error ≡ None → IsAtEnd left

-- How far the bytes that were read were carried out. Ok: all of them, to the end of input. ReadFault: their commands so far, and the job
-- has failed. AfterEnd: nothing, since the end of input had been given. Any other fault: as far as it says.
abbrev pub RunsThrough : JobState → List ℕ → Result (Unit {0}) JobError → JobState → List Output → Type 0
RunsThrough old bytes (Ok _) new went = CarriesOn old bytes new went × IsOver new
RunsThrough old bytes (Err errors.ReadFault) new went = (new.machine ≡ None) × (last : JobState) × CarriesOn old bytes last went × NeedsInput last
RunsThrough old bytes (Err errors.AfterEnd) new went = IsAfterEnd old × (bytes ≡ []) × (new ≡ old) × (went ≡ [])
RunsThrough old bytes (Err error) new went = Faults old bytes error new went

-- A job ran a stream that a reader had.
pub record RunsReader (old : JobState) (had left : Option (List ℕ)) (result : Result (Unit {0}) JobError) (new : JobState) (went : List Output) : Type 0 where
  pub bytes : List ℕ
  pub read : Reads had left (fault_of result) bytes
  pub through : RunsThrough old bytes result new went
