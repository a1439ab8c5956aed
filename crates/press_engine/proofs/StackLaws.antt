-- Each step gives the next of the items that the stack of running bodies owes.
use Rattle.std.proofs.Common.{◌≡◌, ◌∙◌, List, [], ◌∷◌, ◌++◌, refl, sym, ap, false, arith}
use Rattle.std.proofs.lemmas.List.{append-nil}
use Rattle.press_cmd.specs.Token.{Token}
use Rattle.press_engine.specs.declared.activation.Activation.{Activation}
use Rattle.press_engine.specs.declared.machine.Machine.{Machine}
use Rattle.press_engine.specs.Begun.{end_of}
use Rattle.press_engine.specs.Machine.{StepResult, then_run, macro_levels}
use Rattle.press_engine.specs.Stack.{items_in, outwards, continuation}
use Rattle.press_engine.specs.Stepping.{ended_by, unwind, Gives, InnerStepIsOwed, OuterStepIsOwed}
use Rattle.press_engine.specs.Trace.{last_machine, with_end, trace_each}
use Rattle.press_engine.proofs.CommandItems.{Taking, taking, taking_in, begins_at, items_from, command-all}

-- the items of a command are those of the step that takes it, with the body that it starts
items-begin : (at : Taking) → items_from at ≡ outwards (begins_at at).started ((begins_at at).item ∷ []) at.machine
items-begin =
    grind (arith, command-all (λ at begin items. items ≡ outwards begin.started (begin.item ∷ []) at.machine) (λ at item is. refl) (λ at item activation starts inside. refl))

outwards-append : (started activations : List Activation) (items : List StepResult) (machine : Machine)
    → outwards (started ++ activations) items machine ≡ outwards activations (outwards started items machine) machine
outwards-append [] activations items machine = refl
outwards-append (activation ∷ started) activations items machine = grind (arith, outwards-append started activations)

-- what is owed begins with the step's own item and what surrounds it
continuation-begins : (activation : Activation) (command : Token) (rest : List Token) (activations : List Activation) (machine : Machine)
    → let begin = begins_at (taking_in activation command machine) in
    continuation (record activation { body = command ∷ rest } ∷ activations) machine
    ≡ outwards (begin.started ++ (record activation { body = rest } ∷ activations)) (begin.item ∷ []) machine
unfolding trace_each
continuation-begins activation command rest activations machine =
    let begin = begins_at (taking_in activation command machine) in
    let round = record activation { body = rest } ∷ activations in
    ap (λ (items : List StepResult). outwards round items machine) (items-begin (taking_in activation command machine))
    ∙ sym (outwards-append begin.started round (begin.item ∷ []) machine)

-- Two items at the front: the first is through.
cons-end : (activations : List Activation)
    → ((item next : StepResult) (items : List StepResult) (s t : Machine)
    → outwards activations (item ∷ next ∷ items) s ≡ item ∷ outwards activations (next ∷ items) t)
    → (end : Machine → StepResult) (item next : StepResult) (items : List StepResult) (s t : Machine)
    → outwards activations (item ∷ with_end end next items) s ≡ item ∷ outwards activations (with_end end next items) t
cons-end activations cons end item next [] s t = cons item (then_run next.outputs (end next.machine)) [] s t
cons-end activations cons end item next (other ∷ items) s t = cons item next (with_end end other items) s t

outwards-cons : (activations : List Activation) (item next : StepResult) (items : List StepResult) (s t : Machine)
    → outwards activations (item ∷ next ∷ items) s ≡ item ∷ outwards activations (next ∷ items) t
outwards-cons [] item next items s t = refl
outwards-cons (activation ∷ activations) item next items s t = grind (arith, cons-end, outwards-cons activations)

-- there is an item
abbrev IsSomeItem : List StepResult → Type 0
IsSomeItem items = (one : StepResult) × (others : List StepResult) × (items ≡ one ∷ others)

some-end : (activations : List Activation)
    → ((item : StepResult) (items : List StepResult) (s : Machine) → IsSomeItem (outwards activations (item ∷ items) s))
    → (end : Machine → StepResult) (item : StepResult) (items : List StepResult) (s : Machine)
    → IsSomeItem (outwards activations (with_end end item items) s)
some-end activations more end item [] s = more (then_run item.outputs (end item.machine)) [] s
some-end activations more end item (next ∷ items) s = more item (with_end end next items) s

outwards-some : (activations : List Activation) (item : StepResult) (items : List StepResult) (s : Machine) → IsSomeItem (outwards activations (item ∷ items) s)
outwards-some [] item items s = (item, items, refl)
outwards-some (activation ∷ activations) item items s = grind (arith, some-end, outwards-some activations)

ends-owed : (activation : Activation) (rest : List Token) (activations : List Activation)
    → ((item : StepResult) (s : Machine) → Gives (unwind activations item) (outwards activations (item ∷ []) s))
    → (item : StepResult) (s : Machine)
    → Gives (ended_by rest activations (record activation { body = rest }) (unwind activations) item)
    (outwards (record activation { body = rest } ∷ activations) (item ∷ []) s)
unfolding trace_each
ends-owed activation [] activations popped item s = popped (then_run item.outputs (end_of activation item.machine)) s
ends-owed activation (command ∷ rest) activations popped item s =
    let one = items_in activation in
    let begin = begins_at (taking_in activation command item.machine) in
    let first = outwards-some begin.started begin.item [] item.machine in
    let others = trace_each one rest (last_machine item.machine (one command item.machine)) in
    grind (
      arith,
      cons-end,
      outwards-cons,
      ap (λ (these : List StepResult). these ++ others)
          (items-begin (taking_in activation command item.machine) ∙ first.2),
    )

pub unwind-continuation : (activations : List Activation) (item : StepResult) (s : Machine) → Gives (unwind activations item) (outwards activations (item ∷ []) s)
unwind-continuation [] item s = refl
unwind-continuation (activation ∷ activations) item s = ends-owed activation activation.body activations (unwind-continuation activations) item s

-- A step gives the first of the items that the stack owes, and leaves a stack that owes the others.
pub inner-continuation : InnerStepIsOwed
inner-continuation activation command rest activations machine =
    let begin = begins_at (taking_in activation command machine) in
    continuation-begins activation command rest activations machine
    ∙ unwind-continuation (begin.started ++ (record activation { body = rest } ∷ activations)) begin.item machine

-- So does one that takes a command of the stream, of the command's items.
pub outer-continuation : OuterStepIsOwed
outer-continuation command machine =
    let begin = begins_at (taking false macro_levels command machine) in
    items-begin (taking false macro_levels command machine)
    ∙ ap (λ (started : List Activation). outwards started (begin.item ∷ []) machine) (sym (append-nil begin.started))
    ∙ unwind-continuation (begin.started ++ []) begin.item machine
