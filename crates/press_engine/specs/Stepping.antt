-- What steps of the code stand for.
use Rattle.std.specs.Prelude.{◌≡◌, ◌≢◌, ◌⊎◌, ℕ, List, [], ◌∷◌, ◌++◌, Bool, true, false, Option, Some, None}
use Rattle.press_cmd.specs.Token.{Token}
use Rattle.press_table.specs.declared.effect.Effect.{Effect}
use Rattle.press_table.specs.declared.effect.Sent.{Sent}
use Rattle.press_table.specs.declared.state.State.{State}
use Rattle.press_table.specs.Effects.{effect_of}
use Rattle.press_table.specs.Memory.{TakesMemory}
use Rattle.press_table.specs.Outcome as outcome
use Rattle.press_table.specs.Outputs.{all_outputs}
use Rattle.press_table.specs.Table.{effect_on}
use Rattle.press_engine.specs.declared.activation.Activation.{Activation}
use Rattle.press_engine.specs.declared.machine.Machine.{Machine}
use Rattle.press_engine.specs.Begun.{Begun, end_of, begun_only, begun, source_in, begins}
use Rattle.press_engine.specs.Changing.{OnlyChanges}
use Rattle.press_engine.specs.Machine.{StepResult, silent, then_run, with_state, taken, macro_levels}
use Rattle.press_engine.specs.Stack.{continuation, EndsOverlay}
use Rattle.press_engine.specs.Trace.{trace_at}

abbrev pub used_up : List Token → Bool
used_up [] = true
used_up (command ∷ rest) = false

-- whether the innermost body is used up
abbrev pub is_top_used_up : List Activation → Bool
is_top_used_up [] = false
is_top_used_up (activation ∷ activations) = used_up activation.body

-- the effect of the first command of a body
abbrev pub first_effect : Activation → Token → State → outcome.Effect
first_effect activation command state = effect_on (source_in activation.in_overlay activation.macro_levels) command state

-- The first command of a body is taken: it does no more than change the machine; or there is the effect of its row, and one more step.
abbrev pub TakesFirst : Activation → Token → (old : Machine) → Option Effect → (new : Machine) → Type 0
TakesFirst activation command old None new = OnlyChanges command old new
TakesFirst activation command old (Some effect) new =
    (effect_of new.state effect ≡ first_effect activation command old.state)
    × (new ≡ with_state new.state (taken (source_in activation.in_overlay activation.macro_levels) command old))

-- what such a command begins, by its effect, if it does more
abbrev pub begun_by : Bool → (macro_levels : ℕ) → Option Effect → Machine → Begun
begun_by in_overlay levels None machine = begun_only (silent machine)
begun_by in_overlay levels (Some effect) machine = begun in_overlay levels machine (effect_of machine.state effect)

-- the effect may take memory, if there is one
abbrev pub MayTakeMemory : Option Effect → State → Type 0
MayTakeMemory None state = ⊥
MayTakeMemory (Some effect) state = TakesMemory (effect_of state effect)

-- A step done: its item, and the bodies that still run, of which the innermost is not used up.
pub record Stepped : Type 0 where
  pub item : StepResult
  pub activations : List Activation

-- the ends of the bodies that are used up
abbrev pub ended_by : List Token → List Activation → Activation → (StepResult → Stepped) → StepResult → Stepped
ended_by [] activations activation outer item = outer (then_run item.outputs (end_of activation item.machine))
ended_by (command ∷ rest) activations activation outer item = record { item = item; activations = activation ∷ activations }

abbrev pub unwind : List Activation → StepResult → Stepped
unwind [] item = record { item = item; activations = [] }
unwind (activation ∷ activations) item = ended_by activation.body activations activation (unwind activations) item

-- what a step began, with the bodies round it
abbrev pub finished : Begun → List Activation → Stepped
finished begin activations = unwind (begin.started ++ activations) begin.item

-- A step that takes a command of the stream, and one that takes the first command of the innermost body.
abbrev pub step_outer : Token → Machine → Stepped
step_outer command machine = finished (begins false macro_levels command machine) []

abbrev pub step_inner : Activation → Token → List Token → List Activation → Machine → Stepped
step_inner activation command rest activations machine =
    finished (begins activation.in_overlay activation.macro_levels command machine) (record activation { body = rest } ∷ activations)

-- a step gives the first of these items, and leaves a stack that owes the others
abbrev pub Gives : Stepped → List StepResult → Type 0
Gives stepped items = items ≡ stepped.item ∷ continuation stepped.activations stepped.item.machine

abbrev pub InnerStepIsOwed : Type 0
InnerStepIsOwed =
    (activation : Activation) (command : Token) (rest : List Token) (activations : List Activation) (machine : Machine)
    → Gives (step_inner activation command rest activations machine) (continuation (record activation { body = command ∷ rest } ∷ activations) machine)

abbrev pub OuterStepIsOwed : Type 0
OuterStepIsOwed = (command : Token) (machine : Machine) → Gives (step_outer command machine) (trace_at macro_levels command machine)

-- what steps of the code left: the machine, the outputs of these parts in order, and the bodies that still run
abbrev pub run_of : Machine → List Sent → StepResult
run_of machine out = record { machine = machine; outputs = all_outputs out }

abbrev pub stepped_of : Machine → List Sent → List Activation → Stepped
stepped_of machine out activations = record { item = run_of machine out; activations = activations }

-- what a step began, behind what went out before it, and over the bodies that run
abbrev pub begun_over : Begun → (before : List Sent) → List Activation → Stepped
begun_over begin before activations = record {
  item = then_run (all_outputs before) begin.item;
  activations = begin.started ++ activations;
}

-- what a step began lets something out, starts a body, or ends an overlay
abbrev pub LeavesWork : Begun → List Activation → Type 0
LeavesWork begin activations = (begin.item.outputs ≢ []) ⊎ (begin.started ≢ []) ⊎ EndsOverlay activations
