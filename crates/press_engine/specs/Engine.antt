-- The engine as callers see it.
use Rattle.std.specs.Prelude.{◌≡◌, ◌⊎◌, pos, Option, Some, None, List, [], ◌∷◌, Result, Ok, Err, MatchResult, if◌then◌else◌}
use Rattle.std.specs.Borrow.{Bor}
use Rattle.press_cmd.specs.Token.{Token}
use Rattle.press_cmd.specs.declared.variant.Kind.{Kind}
use Rattle.press_cursor.specs.declared.stack.CursorPosition.{CursorPosition}
use Rattle.press_macros.specs.Macros.{defining}
use Rattle.press_raster.specs.Graphics.{raster_position}
use Rattle.press_sink.specs.SinkLog.{SinkUse}
use Rattle.press_sink.specs.Sending.{Ending, Complete, AtSheet, AtReply, ForMemory, Refused, WentOut}
use Rattle.press_engine.specs.declared.step_output.StepOutput.{StepOutput}
use Rattle.press_engine.specs.declared.engine.Engine.{Engine}
use Rattle.press_engine.specs.declared.fault.EngineError.{EngineError}
use Rattle.press_engine.specs.declared.fault.EngineError.TheVariants as engine_errors
use Rattle.press_engine.specs.declared.activation.Activation.{Activation}
use Rattle.press_engine.specs.declared.machine.Last.{Last}
use Rattle.press_engine.specs.declared.machine.Last.TheVariants as lasts
use Rattle.press_engine.specs.declared.machine.Machine.{Machine}
use Rattle.press_engine.specs.declared.view.View.{View}
use Rattle.press_table.specs.Memory.{TakesMemory}
use Rattle.press_table.specs.Outcome.{is_marked}
use Rattle.press_table.specs.Outputs.{all_outputs}
use Rattle.press_table.specs.Table.{effect_on}
use Rattle.press_engine.specs.Machine.{StepResult}
use Rattle.press_engine.specs.Fold.{run}
use Rattle.press_engine.specs.Begun.{source_in}
use Rattle.press_engine.specs.Stack.{continuation, EndsOverlay}
use Rattle.press_table.specs.declared.effect.Source.TheVariants.{Stream}

-- the engine's machine, and none where an earlier command had a fault
abbrev pub machine_of : Engine → Option Machine
machine_of engine = if engine.failed then None else Some engine.machine.value

-- the bodies that run in it, the innermost first
abbrev pub bodies : Engine → List Activation
bodies engine = if engine.failed then [] else engine.bodies

-- how the outputs that a call hands over end, by what it answers
abbrev pub ending_of : {X : Type 0} → Result X EngineError → Ending
ending_of (Ok _) = Complete
ending_of (Err engine_errors.SinkFault) = AtSheet
ending_of (Err engine_errors.ReplyFault) = AtReply
ending_of (Err engine_errors.NoMemory) = ForMemory
ending_of (Err engine_errors.Failed) = Refused

-- A command was handed to an engine. Where all went well, the new machine is the command's; else the engine has failed. Its outputs
-- went out as far as the answer says. An engine that has failed changes nothing, and nothing goes out.
abbrev pub Runs : Option Machine → Token → Result (Unit {0}) EngineError → Option Machine → SinkUse → Type 0
Runs (Some machine) command result new sinks =
    MatchResult result (λ _. new ≡ Some (run command machine).machine) (λ _. new ≡ None)
    × WentOut sinks.tag (run command machine).outputs (ending_of result) sinks.before sinks.after
Runs None command result new sinks = (new ≡ None) × (sinks.after ≡ sinks.before)

-- a step that took a command of this kind
abbrev pub IsOfKind : Last → Kind → Type 0
IsOfKind lasts.Nothing kind = ⊥
IsOfKind (lasts.Ran one) kind = kind ≡ one
IsOfKind (lasts.Recorded one) kind = kind ≡ one
IsOfKind (lasts.Refused one refusal) kind = kind ≡ one

-- An engine that owed these items took a step. Where all went well, its machine is that of the first of them, what it still
-- owes are the others, and the answer is the command's kind; else the engine has failed, and no body runs. The outputs of
-- that item went out as far as the answer says.
pub record TakesItem (owing : List StepResult) (result : Result Kind EngineError) (new : Option Machine) (still : List Activation) (sinks : SinkUse) : Type 0 where
  pub item : StepResult
  pub others : List StepResult
  pub due : owing ≡ item ∷ others
  pub left : MatchResult result
      (λ kind. IsOfKind item.machine.last kind × (new ≡ Some item.machine) × (others ≡ continuation still item.machine))
      (λ _. (new ≡ None) × (still ≡ []))
  pub sends : WentOut sinks.tag item.outputs (ending_of result) sinks.before sinks.after

-- the same for any engine: one that has failed changes nothing, and nothing goes out
abbrev pub TakesNext : Option Machine → (Machine → List StepResult) → Result Kind EngineError → Option Machine → List Activation → SinkUse → Type 0
TakesNext (Some machine) owing result new still sinks = TakesItem (owing machine) result new still sinks
TakesNext None owing result new still sinks = (new ≡ None) × (sinks.after ≡ sinks.before)

-- whether the command of an engine with this machine may take memory
abbrev pub NeedsMemory : Option Machine → Token → Type 0
NeedsMemory None command = ⊥
NeedsMemory (Some machine) command = TakesMemory (effect_on Stream command machine.state)

-- The next command of the innermost body that runs may take memory: it takes some itself, or an overlay ends with it, after
-- which its page closes.
abbrev pub InnerTakesMemory : List Activation → Machine → Type 0
InnerTakesMemory bodies machine =
    (activation : Activation) × (command : Token) × (rest : List Token) × (outer : List Activation) × (bodies ≡ record activation { body = command ∷ rest } ∷ outer)
    × (TakesMemory (effect_on (source_in activation.in_overlay activation.macro_levels) command machine.state) ⊎ EndsOverlay (record activation { body = rest } ∷ outer))

abbrev pub InnerNeedsMemory : Option Machine → List Activation → Type 0
InnerNeedsMemory None bodies = ⊥
InnerNeedsMemory (Some machine) bodies = InnerTakesMemory bodies machine

-- What was owed is the new machine with what went out in the step, and then what is still owed.
pub record StepsTo (owing : List StepResult) (step : StepOutput) (new : Machine) (still : List Activation) : Type 0 where
  pub kind : IsOfKind new.last step.kind
  pub owes : owing ≡ record { machine = new; outputs = all_outputs step.sent.items } ∷ continuation still new

-- the same of an engine, which has not failed
pub record Steps (old : Option Machine) (owing : Machine → List StepResult) (step : StepOutput) (new : Option Machine) (still : List Activation) : Type 0 where
  pub before : Machine
  pub after : Machine
  pub was : old ≡ Some before
  pub is : new ≡ Some after
  pub steps : StepsTo (owing before) step after still

-- an engine that has failed, in which no body runs
abbrev pub HasFailed : Engine → Type 0
HasFailed engine = (machine_of engine ≡ None) × (bodies engine ≡ [])

-- What can be seen of a machine, with its cursor's stack lent.
abbrev pub view_of : Bor (List CursorPosition) → Machine → View
view_of stack machine = record {
  step = machine.step;
  depth = machine.depth;
  last = machine.last;
  x = record { 0 = pos machine.state.cursor.x };
  y = record { 0 = machine.state.cursor.y };
  stack = stack;
  sheets = machine.state.sheets;
  since_job = machine.state.since_job;
  language = machine.state.language;
  environment = machine.state.environment;
  drawing = machine.state.drawing;
  macro_id = machine.state.macro_id;
  overlay = machine.state.overlay;
  defining = defining machine.state.macros;
  raster = raster_position machine.state.graphics;
  hp_gl = machine.state.hp_gl;
  marked = is_marked machine.state;
}
