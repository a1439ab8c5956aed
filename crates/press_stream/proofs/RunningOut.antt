-- Bodies that run, until none does.
use Rattle.std.proofs.Common.{◌≡◌, ◌≢◌, ◌<◌, ◌≤◌, List, [], ◌++◌, length, Option, Some, None, Ok, ap, arith, inl, inr, length-append}
use Rattle.press_sink.specs.Sending.{Output}
use Rattle.press_cmd.specs.Token.{Token}
use Rattle.press_cmd.specs.declared.variant.Kind.{Kind}
use Rattle.press_engine.specs.declared.activation.Activation.{Activation}
use Rattle.press_engine.specs.declared.machine.Machine.{Machine}
use Rattle.press_engine.specs.Machine.{StepResult}
use Rattle.press_engine.specs.Stack.{continuation}
use Rattle.press_stream.specs.declared.step.Step.{Step}
use Rattle.press_stream.specs.declared.step.Step.TheVariants as answers
use Rattle.press_stream.specs.Answers.{TakesOf, Takes, ComesToWant}
use Rattle.press_stream.specs.Meaning.{CarriesOn}
use Rattle.press_stream.specs.State.{JobState}
use Rattle.press_stream.specs.Steps.{Does}
use Rattle.press_stream.proofs.Items.{left-none}
use Rattle.press_stream.proofs.Going.{CarriesOut-then, taken-of}

-- the items that bodies owe in this machine
abbrev owed_in : List Activation → Option Machine → List StepResult
owed_in bodies None = []
owed_in bodies (Some machine) = continuation bodies machine

-- the items that the bodies of a job owe
abbrev pub still_owed : JobState → List StepResult
still_owed job = owed_in job.bodies job.machine

owed_at : (bodies : List Activation) (o : Option Machine) (machine : Machine) → o ≡ Some machine → owed_in bodies o ≡ continuation bodies machine
owed_at bodies o machine is = ap (owed_in bodies) is

-- A body runs, so a step takes nothing of the stream.
nothing_taken : (job : JobState) (given : List Token) → job.bodies ≢ [] → TakesOf job given → given ≡ []
nothing_taken job given inside (inl (_, none)) = none
nothing_taken job given inside (inr (command, due, is)) = absurd (inside due.0)

-- the answer was a step
pub ran_inside : (old new : JobState) (step : Step) (went : List Output) → old.bodies ≢ [] → Takes old (Ok step) new went
    → (kind : Kind) × (item : StepResult) × Does old item kind new × (went ≡ item.outputs)
ran_inside old new (answers.Ran kind) went inside (item, did, is) = (kind, item, did, is)
ran_inside old new answers.Hungry went inside (hungry, _, _) = absurd (inside hungry.idle)
ran_inside old new answers.Ended went inside (over, _, _) = absurd (inside over.idle)

-- A step in a body leaves one item fewer.
pub one_fewer : (old new : JobState) (item : StepResult) (kind : Kind) → old.bodies ≢ [] → Does old item kind new → length (still_owed new) < length (still_owed old)
one_fewer old new item kind inside did = grind (arith, owed_at, nothing_taken, left-none, taken-of)

-- Items that nothing of the stream was taken for leave no more.
pub no_more : (old new : JobState) (went : List Output) → (goes : CarriesOn old [] new went) → goes.0 ≡ [] → length (still_owed new) ≤ length (still_owed old)
no_more old new went (given, items, goes, is) none = grind (arith, owed_at, length-append, left-none)

-- No body runs, so a step takes a command of the stream.
pub one_taken : (job : JobState) (given : List Token) → job.bodies ≡ [] → TakesOf job given → 1 ≤ length given
one_taken job given idle (inl (inside, _)) = absurd (inside idle)
one_taken job given idle (inr (command, due, is)) = rw is (omega arith)

-- what a job comes to after it went on
pub Wants-after : (old between : JobState) (went : List Output) → CarriesOn old [] between went → ComesToWant between → ComesToWant old
Wants-after old between went (given, items, goes, _) (more, rest, last, then, wants) =
    (given ++ more, items ++ rest, last, CarriesOut-then old between last [] [] given more items rest goes then, wants)
