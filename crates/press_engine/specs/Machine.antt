-- The machine round the state, and what starts and ends of bodies do to it.
use Rattle.std.specs.Prelude.{ℕ, ◌+◌, ◌==◌, min, if◌then◌else◌, List, [], ◌++◌, Option, Some, None}
use Rattle.press_cmd.specs.Token.{Token}
use Rattle.press_cmd.specs.Kinds.{kind_of}
use Rattle.press_cmd.specs.declared.variant.Kind.{Kind}
use Rattle.press_sink.specs.Sending.{Output}
use Rattle.press_table.specs.declared.effect.BodyEnd.{BodyEnd}
use Rattle.press_table.specs.declared.effect.Source.{Source}
use Rattle.press_table.specs.declared.effect.Source.TheVariants as sources
use Rattle.press_engine.specs.declared.machine.Last.{Last}
use Rattle.press_engine.specs.declared.machine.Last.TheVariants as lasts
use Rattle.press_engine.specs.declared.machine.Machine.{Machine}
use Rattle.press_table.specs.declared.refusal.Refusal.{Refusal}
use Rattle.press_table.specs.declared.state.State.{State}
use Rattle.press_cursor.specs.declared.stack.CursorPosition.{CursorPosition}
use Rattle.press_table.specs.declared.calls.SavedEnvironment.{SavedEnvironment}
use Rattle.press_table.specs.Calls as calls
use Rattle.press_table.specs.Closing.{finish_effect}
use Rattle.press_table.specs.Outcome.{Effect, Changes, MayAllocate, GivesReply, Stays, Closes, Starts, power_on_state}
use Rattle.press_table.specs.Counts.{counted}
use Rattle.press_table.specs.Refusals.{refusal_of}
use Rattle.press_table.specs.Table.{is_recorded}

-- What commands leave, or a step of them: the machine, and the outputs in order.
pub record StepResult : Type 0 where
  pub machine : Machine
  pub outputs : List Output

-- the machine, and nothing goes out
abbrev pub silent : Machine → StepResult
silent machine = record { machine = machine; outputs = [] }

-- a run after earlier outputs
abbrev pub then_run : List Output → StepResult → StepResult
then_run outputs run = record { machine = run.machine; outputs = outputs ++ run.outputs }

-- after power on: no step was taken, and no body runs
abbrev pub power_on : Machine
power_on = record { state = power_on_state; step = 0; depth = 0; last = lasts.Nothing }

abbrev pub with_state : State → Machine → Machine
with_state state machine = record machine { state = state }

-- a command that is not recorded: it was refused, or not
abbrev pub carried : Kind → Option Refusal → Last
carried kind None = lasts.Ran kind
carried kind (Some refusal) = lasts.Refused kind refusal

-- what a step takes: a command that is recorded; or one that is not, and that is refused or not
abbrev pub last_of : Source → Token → State → Last
last_of source command state =
    if is_recorded command state then lasts.Recorded (kind_of command)
    else carried (kind_of command) (refusal_of source command state)

-- A command is taken, which comes from there: that is one more step.
abbrev pub taken : Source → Token → Machine → Machine
taken source command machine = record machine { step = counted machine.step 1; last = last_of source command machine.state }

-- one running body more; the greatest number stays
abbrev pub deeper : ℕ → ℕ
deeper depth = min (depth + 1) 255

-- A body starts, and is used up: as many bodies run then as before.
abbrev pub enter_body : BodyEnd → State → Machine → Machine
enter_body end state machine =
    record machine { state = calls.at_start end state; depth = deeper machine.depth }

abbrev pub leave_body : BodyEnd → (depth : ℕ) → Machine → Machine
leave_body end depth machine = record machine { state = calls.at_end end machine.state; depth = depth }

-- the state that an effect leaves where no page closes and no body starts
abbrev pub state_of : Effect → State
state_of (Changes state) = state
state_of (MayAllocate state) = state
state_of (GivesReply reply state) = state
state_of (Stays cause state) = state
state_of (Closes cause state) = state
state_of (Starts commands end state) = state

-- in an overlay one macro may run
abbrev pub overlay_levels : ℕ
overlay_levels = 1

-- The start and the end of an overlay's body.
abbrev pub enter_overlay : Machine → Machine
enter_overlay machine =
    record machine { state = calls.overlaid machine.state; depth = deeper machine.depth }

abbrev pub leave_overlay : SavedEnvironment → CursorPosition → (depth : ℕ) → Machine → Machine
leave_overlay kept place depth after =
    record after { state = calls.put_back kept place after.state; depth = depth }

-- what an effect leaves where no overlay runs and no body starts
abbrev pub finish_without_overlay : Machine → Effect → StepResult
finish_without_overlay machine effect =
    record { machine = with_state (finish_effect effect).state machine; outputs = (finish_effect effect).outputs }

-- two macros may run, one in the other; where all may still start, the stream gives the commands
abbrev pub macro_levels : ℕ
macro_levels = 2

abbrev pub source_at : (macro_levels : ℕ) → Source
source_at left = if left == macro_levels then sources.Stream else sources.Macro
