-- The stack of running bodies, and the items of the trace that it still owes (PCL 5 Printer Language Technical Reference
-- Manual, "Macros").
use Rattle.std.specs.Prelude.{◌≡◌, ◌⊎◌, ◌<◌, ◌+◌, ⊤, ℕ, List, [], ◌∷◌, ◌++◌, Bool, true, false}
use Rattle.press_cmd.specs.Token.{Token}
use Rattle.press_engine.specs.declared.activation.Activation.{Activation}
use Rattle.press_engine.specs.declared.activation.ActivationEnd.{ActivationEnd}
use Rattle.press_engine.specs.declared.activation.ActivationEnd.TheVariants as ends_by
use Rattle.press_engine.specs.declared.machine.Machine.{Machine}
use Rattle.press_engine.specs.Begun.{end_of}
use Rattle.press_engine.specs.Machine.{StepResult}
use Rattle.press_engine.specs.Trace.{last_machine, with_end, trace_each, trace_in_overlay, trace_at}

-- the items of a command, in an overlay or outside
abbrev pub items_at : Bool → (more : ℕ) → Token → Machine → List StepResult
items_at true more = trace_in_overlay more
items_at false more = trace_at more

abbrev pub items_in : Activation → Token → Machine → List StepResult
items_in activation = items_at activation.in_overlay activation.macro_levels

-- an end falls into the last of the items
abbrev pub ends_in : (Machine → StepResult) → List StepResult → List StepResult
ends_in end [] = []
ends_in end (item ∷ items) = with_end end item items

-- Items, and what the bodies round them add: each body's rest, and its end in the last of them.
abbrev pub outwards : List Activation → List StepResult → Machine → List StepResult
outwards [] items machine = items
outwards (activation ∷ activations) items machine =
    outwards activations (ends_in (end_of activation) (items ++ trace_each (items_in activation) activation.body (last_machine machine items))) machine

-- What a stack of running bodies, the innermost first, still owes from a machine on.
abbrev pub continuation : List Activation → Machine → List StepResult
continuation [] machine = []
continuation (activation ∷ activations) machine = outwards activations (ends_in (end_of activation) (trace_each (items_in activation) activation.body machine)) machine

-- How many bodies may still start inside a body, one in the other: in an overlay so many macros; outside, an overlay and one
-- macro more.
abbrev pub room_where : Bool → (more : ℕ) → ℕ
room_where true more = more
room_where false more = more + 2

abbrev pub room_in : List Activation → ℕ
room_in [] = 4
room_in (activation ∷ activations) = room_where activation.in_overlay activation.macro_levels

-- each body has less room than the one round it
abbrev pub IsNested : List Activation → Type 0
IsNested [] = ⊤
IsNested (activation ∷ activations) = (room_where activation.in_overlay activation.macro_levels < room_in activations) × IsNested activations

-- a body runs, and its innermost one has a command
abbrev pub HasNext : List Activation → Type 0
HasNext activations =
    (activation : Activation) × (command : Token) × (rest : List Token) × (outer : List Activation) × (activations ≡ record activation { body = command ∷ rest } ∷ outer)

-- the innermost of the bodies that run has a command, if one runs
abbrev pub IsReady : List Activation → Type 0
IsReady activations = (activations ≡ []) ⊎ HasNext activations

-- An overlay is among the bodies that are used up, the innermost first.
abbrev pub IsOverlayEnd : ActivationEnd → Type 0
IsOverlayEnd (ends_by.Macro end) = ⊥
IsOverlayEnd (ends_by.Close cause kept place) = ⊤

abbrev pub EndsOverlay : List Activation → Type 0
EndsOverlay [] = ⊥
EndsOverlay (activation ∷ activations) = (activation.body ≡ []) × (IsOverlayEnd activation.end ⊎ EndsOverlay activations)

-- bodies between two steps
pub record IsSound (activations : List Activation) : Type 0 where
  pub ready : IsReady activations
  pub nested : IsNested activations
