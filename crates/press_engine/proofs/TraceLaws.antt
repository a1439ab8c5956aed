-- The trace of commands one after another, and of one that is a single step.
use Rattle.std.proofs.Common.{◌≡◌, ◌∙◌, List, [], ◌∷◌, ◌++◌, false, refl, sym, ap, arith}
use Rattle.std.proofs.lemmas.List.{append_assoc, append-nil}
use Rattle.press_cmd.specs.Token.{Token}
use Rattle.press_table.specs.declared.effect.Source.TheVariants as sources
use Rattle.press_table.specs.Table.{effect_on}
use Rattle.press_engine.specs.declared.machine.Machine.{Machine}
use Rattle.press_engine.specs.TraceLaws.{IsOneStep}
use Rattle.press_engine.specs.Machine.{StepResult, macro_levels}
use Rattle.press_engine.specs.Trace.{last_machine, joined, with_end, trace_each, trace_at, trace, told_by}
use Rattle.press_engine.proofs.CommandItems.{Taking, taking, effect_at, items_from, command-all}

pub last_machine-append : (items others : List StepResult) (machine : Machine) → last_machine machine (items ++ others) ≡ last_machine (last_machine machine items) others
last_machine-append [] others machine = refl
last_machine-append (item ∷ items) others machine = last_machine-append items others item.machine

pub joined-append : (items others : List StepResult) → joined (items ++ others) ≡ joined items ++ joined others
joined-append [] others = refl
joined-append (item ∷ items) others = grind (arith, append_assoc, joined-append items others)

-- what an end leaves
pub with_end-machine : (end : Machine → StepResult) (item : StepResult) (items : List StepResult) (before : Machine)
    → last_machine before (with_end end item items) ≡ (end (last_machine item.machine items)).machine
with_end-machine end item [] before = refl
with_end-machine end item (next ∷ items) before = with_end-machine end next items item.machine

pub trace_each-append : (tracing : Token → Machine → List StepResult) (commands others : List Token) (machine : Machine)
    → trace_each tracing (commands ++ others) machine
    ≡ trace_each tracing commands machine ++ trace_each tracing others (last_machine machine (trace_each tracing commands machine))
unfolding trace_each
trace_each-append tracing [] others machine = refl
trace_each-append tracing (command ∷ commands) others machine =
    let first = tracing command machine in
    let middle = last_machine machine first in
    let items = trace_each tracing commands middle in
    ap (λ rest. first ++ rest) (trace_each-append tracing commands others middle)
    ∙ sym (append_assoc first items (trace_each tracing others (last_machine middle items)))
    ∙ ap (λ at. (first ++ items) ++ trace_each tracing others at) (sym (last_machine-append first items machine))

-- The trace of commands and then others.
pub trace-append : (commands others : List Token) (machine : Machine) → trace (commands ++ others) machine ≡ trace commands machine ++ trace others (last_machine machine (trace commands machine))
trace-append commands others machine = trace_each-append (trace_at macro_levels) commands others machine

-- A command that is one step has one item.
abbrev IsOneItem : List StepResult → Type 0
IsOneItem items = (item : StepResult) × (items ≡ item ∷ [])

one-item : (at : Taking) → IsOneStep (effect_at at) → IsOneItem (items_from at)
one-item =
    command-all (λ at begin items. IsOneStep (effect_at at) → IsOneItem items) (λ at item is one. (item, refl))
    (λ at item activation starts inside one. absurd (starts.effect.more one))

pub trace-one : (command : Token) (machine : Machine) → IsOneStep (effect_on sources.Stream command machine.state) → trace (command ∷ []) machine ≡ told_by (trace_at macro_levels command machine) machine ∷ []
unfolding trace_each
trace-one command machine step =
    let one = one-item (taking false macro_levels command machine) step in
    append-nil (trace_at macro_levels command machine) ∙ grind (arith, append-nil, one.1)
