-- The steps of a stream whose end was given.
use Rattle.std.specs.Prelude.{◌≡◌, ◌≢◌, ◌⊎◌, ◌≤◌, ◌<◌, ℕ, List, [], ◌∷◌, ◌++◌, length, Some, None, Option, IfSome, IsSome, Bool, true, false}
use Rattle.std.specs.List.{All}
use Rattle.std.specs.Io.KnownBytes.{Consumes, IsAtEnd}
use Rattle.circular_buffer.specs.Buffer.{Buffer, keep_last}
use Rattle.press_cmd.specs.declared.variant.Kind.{Kind}
use Rattle.press_engine.specs.declared.machine.Last.{Last}
use Rattle.press_engine.specs.declared.machine.Last.TheVariants as lasts
use Rattle.press_engine.specs.declared.machine.Machine.{Machine}
use Rattle.press_engine.specs.Machine.{StepResult}
use Rattle.press_engine.specs.Trace.{last_machine}
use Rattle.press_stream.specs.Answers.{WantsMemory}
use Rattle.press_stream.specs.Left.{LeftOf}
use Rattle.press_stream.specs.State.{JobState, IsOver, opened, with_piece, input_ended}
use Rattle.press_debug.specs.declared.stepper.Taken.{Taken}
use Rattle.press_debug.specs.declared.stepper.Taken.TheVariants as answers

-- a job, and the kinds of the last commands that it took, oldest first
pub record DebuggerState : Type 0 where
  pub job : JobState
  pub recent : List Kind

-- a stream of these bytes with its end given, of which no step was taken
abbrev pub at_start : List ℕ → DebuggerState
at_start bytes = record { job = input_ended (with_piece bytes opened); recent = [] }

-- A reader was read to its end, and of the stream of its bytes no step was taken.
pub record IsReadAtStart (had left : Option (List ℕ)) (now : DebuggerState) : Type 0 where
  pub bytes : List ℕ
  pub read : Consumes had left bytes
  pub at_end : IsAtEnd left
  pub start : now ≡ at_start bytes

-- how many of the last kinds are kept
abbrev pub most_recent : ℕ
most_recent = 64

-- the kind of the command that a step took, whether it was carried out or recorded
abbrev pub kind_taken : Last → List Kind
kind_taken (lasts.Ran kind) = kind ∷ []
kind_taken (lasts.Recorded kind) = kind ∷ []
kind_taken (lasts.Refused kind refusal) = kind ∷ []
kind_taken lasts.Nothing = []

-- the kinds of the commands that these items took, one after another
abbrev pub kinds_of : List StepResult → List Kind
kinds_of [] = []
kinds_of (item ∷ items) = kind_taken item.machine.last ++ kinds_of items

-- the last kinds, with those of these items behind them
abbrev pub with_kinds : List Kind → List StepResult → List Kind
with_kinds recent items = keep_last most_recent (recent ++ kinds_of items)

-- These items were taken: they are the first of whatever was left of the job, and the others are left now; the machine is that
-- of the last of them, and the last kinds have theirs behind them.
pub record Advances (old : DebuggerState) (items : List StepResult) (new : DebuggerState) : Type 0 where
  pub from : Machine
  pub starts : old.job.machine ≡ Some from
  pub ends : new.job.machine ≡ Some (last_machine from items)
  pub left : (all : List StepResult) → LeftOf old.job all → (others : List StepResult) × (all ≡ items ++ others) × LeftOf new.job others
  pub recent : new.recent ≡ with_kinds old.recent items

-- What comes next may take memory; or the job had failed before.
abbrev pub MayFail : JobState → Type 0
MayFail job = WantsMemory job ⊎ (job.machine ≡ None)

-- Memory ran out, behind some items that were taken: what came next may take some.
abbrev pub RanOut : DebuggerState → DebuggerState → Type 0
RanOut old new =
    (new.job.machine ≡ None) × (MayFail old.job ⊎ ((items : List StepResult) × (last : DebuggerState) × Advances old items last × MayFail last.job))

-- One step was taken; or none is left, and nothing changed; or memory ran out.
abbrev pub TakesOne : DebuggerState → Taken → DebuggerState → Type 0
TakesOne old answers.Steps new = (item : StepResult) × Advances old (item ∷ []) new
TakesOne old answers.Nothing new = IsOver old.job × (new ≡ old)
TakesOne old answers.Fault new = (new.job.machine ≡ None) × MayFail old.job

-- Steps were taken to the first state of no greater depth.
pub record PassesDeeper (old : DebuggerState) (new : DebuggerState) : Type 0 where
  pub passed : List StepResult
  pub here : StepResult
  pub advances : Advances old (passed ++ here ∷ []) new
  pub deeper : All (λ item. advances.from.depth < item.machine.depth) passed
  pub back : here.machine.depth ≤ advances.from.depth

abbrev pub TakesOver : DebuggerState → Taken → DebuggerState → Type 0
TakesOver old answers.Steps new = PassesDeeper old new
TakesOver old answers.Nothing new = IsOver old.job × (new ≡ old)
TakesOver old answers.Fault new = RanOut old new

-- the last of what is left of a job has no running body
abbrev pub EndsOutside : JobState → Type 0
EndsOutside job = (items : List StepResult) (left : LeftOf job items) → (last_machine left.from items).depth ≡ 0

-- no body runs
abbrev pub IsOutside : JobState → Type 0
IsOutside job = (machine : Machine) → job.machine ≡ Some machine → machine.depth ≡ 0

-- more bodies run than so many, and no more
abbrev pub IsDeeper : JobState → (depth : ℕ) → Type 0
IsDeeper job depth = IfSome job.machine (λ machine. depth < machine.depth)

abbrev pub IsBack : JobState → (depth : ℕ) → Type 0
IsBack job depth = IfSome job.machine (λ machine. machine.depth ≤ depth)

-- Something is left of a job.
abbrev pub Remains : JobState → Type 0
Remains job = (items : List StepResult) → LeftOf job items → items ≢ []

-- what is true of a job that is carried out step by step, of the ring of the last kinds, and of whether there was a fault
pub record IsSound (job : JobState) (recent : Buffer Kind) (failed : Bool) : Type 0 where
  pub running : failed ≡ false → IsSome job.machine
  pub lost : failed ≡ true → job.machine ≡ None
  pub ended : failed ≡ false → job.held.ended ≡ true
  pub outside : EndsOutside job
  pub capacity : recent.capacity ≡ most_recent
  pub few : length recent.items ≤ most_recent
