-- The trace of commands: the machine after each table step, with what went out in that step. A step takes one command, of the
-- stream or of the innermost body that runs. In the same step each innermost body that is used up ends, and a page close
-- that waited for its overlay is finished. That falls into the last item of the body. Where the body is empty, it falls into the item
-- that started it. A whole command is its items.
use Rattle.std.specs.Prelude.{ℕ, zero, suc, List, [], ◌∷◌, ◌++◌, true, false, if◌then◌else◌}
use Rattle.press_cmd.specs.Token.{Token}
use Rattle.press_sink.specs.Sending.{Output}
use Rattle.press_engine.specs.declared.activation.Activation.{Activation}
use Rattle.press_engine.specs.declared.machine.Machine.{Machine}
use Rattle.press_engine.specs.Begun.{Begun, end_of, begins}
use Rattle.press_engine.specs.Machine.{StepResult, then_run, overlay_levels, macro_levels}

-- the machine after the last of the items; the one before, where there is none
abbrev pub last_machine : (before : Machine) → List StepResult → Machine
last_machine before [] = before
last_machine before (item ∷ items) = last_machine item.machine items

-- the outputs of all items, joined
abbrev pub joined : List StepResult → List Output
joined [] = []
joined (item ∷ items) = item.outputs ++ joined items

-- what an end does falls into the last of the items
abbrev pub with_end : (Machine → StepResult) → StepResult → List StepResult → List StepResult
with_end end item [] = then_run item.outputs (end item.machine) ∷ []
with_end end item (next ∷ items) = item ∷ with_end end next items

-- the items of commands, one after another
unfoldable pub trace_each : (Token → Machine → List StepResult) → List Token → Machine → List StepResult
trace_each one [] machine = []
trace_each one (command ∷ commands) machine =
    one command machine ++ trace_each one commands (last_machine machine (one command machine))

-- The items of a command, by what it begins: its item alone; or, where it starts a body, that item and the items of the body's
-- commands, with the end of the body in the last of them.
abbrev pub item_and_body : (Activation → Token → Machine → List StepResult) → StepResult → List Activation → List StepResult
item_and_body inside item [] = item ∷ []
item_and_body inside item (activation ∷ others) =
    with_end (end_of activation) item (trace_each (inside activation) activation.body item.machine)

abbrev pub begun_items : (Activation → Token → Machine → List StepResult) → Begun → List StepResult
begun_items inside begin = item_and_body inside begin.item begin.started

-- The items of a command of an overlay, where so many macros may start; with none left to start, its item alone.
unfoldable pub trace_in_overlay : (macro_levels : ℕ) → Token → Machine → List StepResult
trace_in_overlay zero command machine = (begins true 0 command machine).item ∷ []
trace_in_overlay (suc more) command machine = begun_items (λ activation. trace_in_overlay more) (begins true (suc more) command machine)

-- the items of the commands of a body that is started outside an overlay: in the overlay, or of a macro
abbrev pub inside_of : (Token → Machine → List StepResult) → Activation → Token → Machine → List StepResult
inside_of of_macro activation = if activation.in_overlay then trace_in_overlay overlay_levels else of_macro

-- The items of a command outside an overlay, where so many macros may start.
unfoldable pub trace_at : (macro_levels : ℕ) → Token → Machine → List StepResult
trace_at zero command machine = begun_items (λ activation. trace_in_overlay overlay_levels) (begins false 0 command machine)
trace_at (suc more) command machine = begun_items (inside_of (trace_at more)) (begins false (suc more) command machine)

-- The trace of the commands of a stream.
abbrev pub trace : List Token → Machine → List StepResult
trace = trace_each (trace_at macro_levels)

-- What items leave from a machine on: the machine of the last, and all outputs in order.
abbrev pub told_by : List StepResult → Machine → StepResult
told_by items machine = record { machine = last_machine machine items; outputs = joined items }
