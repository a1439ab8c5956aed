-- Items that were taken one after another.
use Rattle.std.proofs.Common.{◌≡◌, ◌≢◌, List, [], ◌∷◌, inl, inr, refl, sym, subst, arith}
use Rattle.press_cmd.specs.Token.{Token}
use Rattle.press_engine.specs.declared.activation.Activation.{Activation}
use Rattle.press_engine.specs.declared.machine.Machine.{Machine}
use Rattle.press_engine.specs.Machine.{StepResult, then_run}
use Rattle.press_engine.specs.Begun.{end_of}
use Rattle.press_engine.specs.Stack.{continuation, HasNext, IsReady}
use Rattle.press_engine.specs.Stepping.{ended_by, unwind, Gives, step_inner}
use Rattle.press_engine.proofs.StackLaws.{inner-continuation}

ended-ready : (body : List Token) (activations : List Activation) (activation : Activation)
    → ((item : StepResult) → IsReady (unwind activations item).activations) → (item : StepResult) → body ≡ activation.body
    → IsReady (ended_by body activations activation (unwind activations) item).activations
ended-ready [] activations activation outer item is = outer (then_run item.outputs (end_of activation item.machine))
ended-ready (command ∷ rest) activations activation outer item is = inr (activation, command, rest, activations, (λ i. record activation { body = sym is i } ∷ activations))

pub unwind-ready : (activations : List Activation) (item : StepResult) → IsReady (unwind activations item).activations
unwind-ready [] item = inl refl
unwind-ready (activation ∷ activations) item = ended-ready activation.body activations activation (unwind-ready activations) item refl

pub ready-of : (activations still : List Activation) (item : StepResult) → still ≡ (unwind activations item).activations → IsReady still
ready-of activations still item is = subst IsReady (sym is) (unwind-ready activations item)

pub ready-some : (activations : List Activation) → IsReady activations → activations ≢ [] → HasNext activations
ready-some activations h1 some = grind arith

pub inner-gives : (activation : Activation) (command : Token) (rest : List Token) (outer activations : List Activation) (machine : Machine)
    → activations ≡ record activation { body = command ∷ rest } ∷ outer
    → Gives (step_inner activation command rest outer machine) (continuation activations machine)
inner-gives activation command rest outer activations machine is = grind (arith, inner-continuation)
