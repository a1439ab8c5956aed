use Rattle.std.proofs.Common.{◌∙◌, List, ◌∷◌, arith, refl, ap, subst, reverse}
use Rattle.press_engine.specs.declared.activation.Activation.{Activation}
use Rattle.press_engine.specs.Running.{ComesToTakeMemory}
use Rattle.press_engine.specs.Stack.{IsNested}
use Rattle.press_engine.specs.Stepping.{Stepped}
use Rattle.press_engine.proofs.CommandItems.{taking_in}
use Rattle.press_engine.proofs.ItemsLemmas.{ready-some}
use Rattle.press_engine.proofs.RunningLaws.{runs-to}
use Rattle.press_engine.proofs.StepLemmas.{step-last, taken-last, step-sound}
use Rattle.press_engine.proofs.bodies.Bodies.run_inner.Goals as goal

pub run_inner-requires : goal.run_inner-requires
run_inner-requires c = grind (arith, ready-some, reverse)

pub kind-requires : goal.kind-requires
kind-requires c =
    let runs = c.in-Ok.ensures.runs in
    let goes = runs.goes in
    taken-last _ goes.command runs.between c.run_inner.new.self.last
    (ap (λ (stepped : Stepped). stepped.item.machine.last) runs.steps ∙ step-last (taking_in goes.activation goes.command runs.between) (record goes.activation { body = goes.rest } ∷ goes.outer))

pub invariant_of-self : goal.invariant_of-self
invariant_of-self c =
    let runs = c.in-Ok.ensures.runs in
    let goes = runs.goes in
    let nested = subst IsNested goes.was c.self.invariant.nested in
    step-sound (taking_in goes.activation goes.command runs.between) (record goes.activation { body = goes.rest } ∷ goes.outer)
    (reverse c.run_inner.new.activations.items) nested (omega arith) (ap (λ (stepped : Stepped). stepped.activations) runs.steps)

pub returns-in-Ok-clause-runs : goal.returns-in-Ok-clause-runs
returns-in-Ok-clause-runs c = grind (arith, reverse, runs-to)

pub returns-in-Err-clause-memory : goal.returns-in-Err-clause-memory
returns-in-Err-clause-memory c stops =
    let P : List Activation → Type 0 = λ these. ComesToTakeMemory these c.args.machine.now in
    subst P c.self.view_is (c.in-Err.ensures.memory refl)
