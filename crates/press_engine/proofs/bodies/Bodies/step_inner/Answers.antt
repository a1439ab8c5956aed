use Rattle.std.proofs.Common.{◌≢◌, ◌∙◌, List, [], ◌∷◌, arith, sym, ap, subst, reverse}
use Rattle.press_engine.specs.declared.activation.Activation.{Activation}
use Rattle.press_engine.specs.Engine.{StepsTo}
use Rattle.press_engine.specs.Stack.{continuation, IsNested}
use Rattle.press_engine.specs.Stepping.{Stepped, step_inner}
use Rattle.press_engine.proofs.ItemsLemmas.{ready-some, inner-gives}
use Rattle.press_engine.proofs.StepLemmas.{step-last, taken-last, steps-to, step-sound}
use Rattle.press_engine.proofs.CommandItems.{taking_in}
use Rattle.press_engine.proofs.bodies.Bodies.step_inner.Goals as goal

pub kind-requires : goal.kind-requires
kind-requires c =
    let activations = reverse c.self.inside.activations.items in
    let some : activations ≢ [] = λ none. c.requires.running (sym c.self.view_is ∙ none) in
    let (activation, command, rest, outer, is) = ready-some activations c.self.invariant.ready some in
    let steps = c.in-Ok.ensures.steps activation command rest outer is in
    taken-last _ command c.args.machine.now c.step_inner.new.self.last (ap (λ (stepped : Stepped). stepped.item.machine.last) steps ∙ step-last (taking_in activation command c.args.machine.now) (record activation { body = rest } ∷ outer))

pub invariant_of-self : goal.invariant_of-self
invariant_of-self c =
    let activations = reverse c.self.inside.activations.items in
    let some : activations ≢ [] = λ none. c.requires.running (sym c.self.view_is ∙ none) in
    let (activation, command, rest, outer, is) = ready-some activations c.self.invariant.ready some in
    let steps = c.in-Ok.ensures.steps activation command rest outer is in
    let nested = subst IsNested is c.self.invariant.nested in
    step-sound (taking_in activation command c.args.machine.now) (record activation { body = rest } ∷ outer)
    (reverse c.step_inner.new.activations.items) nested (omega arith) (ap (λ (stepped : Stepped). stepped.activations) steps)

pub returns-in-Ok-clause-steps : goal.returns-in-Ok-clause-steps
returns-in-Ok-clause-steps c =
    let activations = reverse c.self.inside.activations.items in
    let old = c.args.machine.now in
    let some : activations ≢ [] = λ none. c.requires.running (sym c.self.view_is ∙ none) in
    let (activation, command, rest, outer, is) = ready-some activations c.self.invariant.ready some in
    let steps = c.in-Ok.ensures.steps activation command rest outer is in
    let P : List Activation → Type 0 =
    λ these.
    StepsTo (continuation these old) (record { kind = c.kind.result; sent = c.in-Ok.sent }) c.step_inner.new.self
    (reverse c.step_inner.new.activations.items) in
    subst P c.self.view_is
    (steps-to (continuation activations old) (step_inner activation command rest outer old) c.kind.result c.in-Ok.sent
    c.step_inner.new.self (reverse c.step_inner.new.activations.items) (inner-gives activation command rest outer activations old is)
    steps c.kind.ensures)
