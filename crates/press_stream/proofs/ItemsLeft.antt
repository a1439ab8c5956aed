-- The items that are left of a job whose end was given: they are one list, and each step takes its first.
use Rattle.std.proofs.Common.{◌≡◌, List, [], Option, Some, None, refl, ap, arith}
use Rattle.press_cmd.specs.Token.{Token}
use Rattle.press_engine.specs.declared.machine.Machine.{Machine}
use Rattle.press_engine.specs.Machine.{StepResult}
use Rattle.press_stream.specs.Left.{LeftOf}
use Rattle.press_stream.specs.Meaning.{left, Owes}
use Rattle.press_stream.specs.State.{JobState}
use Rattle.press_stream.proofs.Going.{Owes-some, same_some}
use Rattle.press_stream.proofs.LeftLemmas.{Owes-one}

pub LeftOf-one : (job : JobState) (items others : List StepResult) → LeftOf job items → LeftOf job others → items ≡ others
LeftOf-one job items others is other = grind (arith, same_some, Owes-one)

-- the commands that are left of a job, and their items
commands_left : (job : JobState) → (commands : List Token) × Owes job [] commands
commands_left job = Owes-some job [] (λ _. refl)

items_in : JobState → Option Machine → List StepResult
items_in job None = []
items_in job (Some machine) = left (commands_left job).0 job.bodies machine

pub items_left : JobState → List StepResult
items_left job = items_in job job.machine

pub items_left-none : (job : JobState) → job.machine ≡ None → items_left job ≡ []
unfolding items_left items_in
items_left-none job is = ap (items_in job) is

pub LeftOf-some : (job : JobState) (machine : Machine) → job.machine ≡ Some machine → LeftOf job (items_left job)
unfolding items_left items_in
LeftOf-some job machine is = record {
  from = machine;
  starts = is;
  commands = (commands_left job).0;
  owes = (commands_left job).1;
  are = ap (items_in job) is;
}
