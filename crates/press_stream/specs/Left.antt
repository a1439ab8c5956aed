-- What is left of a job, with the bytes that are still to come.
use Rattle.std.specs.Prelude.{◌≡◌, List, [], ◌∷◌, ◌++◌, Some, false, ℕ}
use Rattle.press_cmd.specs.Split.{Closed}
use Rattle.press_cmd.specs.Token.{Token}
use Rattle.press_cmd.specs.declared.variant.Kind.{Kind}
use Rattle.press_engine.specs.declared.machine.Machine.{Machine}
use Rattle.press_engine.specs.Machine.{StepResult, power_on}
use Rattle.press_engine.specs.Trace.{trace}
use Rattle.press_stream.specs.State.{JobState, IsOver, opened, with_piece, input_ended}
use Rattle.press_stream.specs.Meaning.{left, Owes, with_exit}
use Rattle.press_stream.specs.Steps.{Does}

-- These items are left of a job where these bytes are still to come, and then its end: those that its bodies owe, and those of
-- the commands that it still has to carry out.
pub record LeftWith (job : JobState) (bytes : List ℕ) (items : List StepResult) : Type 0 where
  pub from : Machine
  pub starts : job.machine ≡ Some from
  pub commands : List Token
  pub owes : Owes job bytes commands
  pub are : items ≡ left commands job.bodies from

-- the same, where no more bytes come
abbrev pub LeftOf : JobState → List StepResult → Type 0
LeftOf job items = LeftWith job [] items

-- A step does the first of the items that are left, and the others are left behind it.
pub record StepsOn (new : JobState) (bytes : List ℕ) (items : List StepResult) (item : StepResult) : Type 0 where
  pub others : List StepResult
  pub are : items ≡ item ∷ others
  pub still : LeftWith new bytes others

-- What is left of a job, from call to call.
-- opens: at the beginning, the items of all bytes that come. pushes, ends: a piece that is pushed, and the end of input, leave what was
-- left. does: a step does the first item, whether it answers what goes out or hands that to sinks. over: nothing is left of a job that is
-- over.
pub record LeftGoesOn : Type 0 where
  pub opens : (bytes : List ℕ) (closed : List Token) → Closed bytes closed → LeftWith opened bytes (trace (with_exit closed) power_on)
  pub pushes : (job : JobState) (piece more : List ℕ) (items : List StepResult)
      → job.held.ended ≡ false → LeftWith job (piece ++ more) items → LeftWith (with_piece piece job) more items
  pub ends : (job : JobState) (items : List StepResult) → LeftWith job [] items → LeftWith (input_ended job) [] items
  pub does : (old new : JobState) (item : StepResult) (kind : Kind) (bytes : List ℕ) (items : List StepResult)
      → LeftWith old bytes items → Does old item kind new → StepsOn new bytes items item
  pub over : (job : JobState) (bytes : List ℕ) (items : List StepResult) → IsOver job → LeftWith job bytes items → items ≡ []
