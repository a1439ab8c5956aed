-- Rows of macros (PCL 5 Printer Language Technical Reference Manual, "Macros": Macro ID and Macro Control commands).
use Rattle.std.specs.Prelude.{ℕ, ℤ, Bool, true, false, is_some, if◌then◌else◌, List, [], ◌∷◌, Option, Some, None}
use Rattle.press_cmd.specs.Token.{Token}
use Rattle.press_macros.specs.Macros.{definition_begun, recorded, definition_ended, body_of, all_deleted, permanent_macros, without, macro_made}
use Rattle.press_page.specs.Numbers.{named, within}
use Rattle.press_table.specs.declared.effect.BodyEnd.{BodyEnd}
use Rattle.press_table.specs.declared.effect.BodyEnd.TheVariants as ends
use Rattle.press_table.specs.declared.effect.Source.{Source}
use Rattle.press_table.specs.declared.effect.Source.TheVariants as sources
use Rattle.press_table.specs.declared.macro_control.MacroControl.{MacroControl}
use Rattle.press_table.specs.declared.macro_control.MacroControl.TheVariants as controls
use Rattle.press_table.specs.declared.state.State.{State}
use Rattle.press_table.specs.Calls.{kept_of}
use Rattle.press_table.specs.Outcome.{Effect, Changes, MayAllocate, Starts, with_macros}

-- ESC&f#Y, macro ID, at most 32,767
abbrev pub greatest_macro_id : ℕ
greatest_macro_id = 32767

abbrev pub with_macro_id : Option ℕ → State → State
with_macro_id None state = state
with_macro_id (Some id) state = record state { macro_id = id }

abbrev pub set_macro_id : (number : ℤ) → State → State
set_macro_id number state = with_macro_id (within greatest_macro_id number) state

-- ESC&f#X, macro control
abbrev pub control_of : ℤ → Option MacroControl
control_of =
    named
    ((0, controls.Start) ∷ (1, controls.Stop) ∷ (2, controls.Execute) ∷ (3, controls.Call) ∷ (4, controls.EnableOverlay)
    ∷ (5, controls.DisableOverlay) ∷ (6, controls.DeleteAll) ∷ (7, controls.DeleteTemporary) ∷ (8, controls.Delete)
    ∷ (9, controls.MakeTemporary) ∷ (10, controls.MakePermanent) ∷ [])

-- whether a macro definition is open, and whether a number of macro control ends it
abbrev pub recording : State → Bool
recording state = is_some state.macros.definition

abbrev pub stops : Option MacroControl → Bool
stops (Some controls.Stop) = true
stops other = false

abbrev pub is_stop : (number : ℤ) → Bool
is_stop number = stops (control_of number)

-- While a definition is open, a command is recorded.
abbrev pub record_command : Token → State → State
record_command command = with_macros (λ macros. recorded macros command)

-- A definition starts where none is open, and not in a running body.
abbrev pub start_from : Source → State → State
start_from sources.Stream state =
    if recording state then state else with_macros (λ macros. definition_begun macros state.macro_id) state
start_from other state = state

-- It ends: the macro replaces an older one.
abbrev pub stop : State → Effect
stop state = if recording state then MayAllocate (with_macros definition_ended state) else Changes state

-- The body of the macro with the macro ID starts, if there is such a macro.
abbrev pub start_body : Option (List Token) → BodyEnd → State → Effect
start_body None end state = Changes state
start_body (Some commands) end state = Starts commands end state

abbrev pub run_macro : BodyEnd → State → Effect
run_macro end state = start_body (body_of state.macros state.macro_id) end state

-- What macro control does by its number, with the macro of the macro ID.
abbrev pub controlled : MacroControl → Source → State → Effect
controlled controls.Start source state = Changes (start_from source state)
controlled controls.Stop source state = stop state
controlled controls.Execute source state = run_macro ends.Execute state
controlled controls.Call source state = run_macro (ends.Call (kept_of state)) state
controlled controls.EnableOverlay source state = Changes (record state { overlay = Some state.macro_id })
controlled controls.DisableOverlay source state = Changes (record state { overlay = None })
controlled controls.DeleteAll source state = Changes (with_macros all_deleted state)
controlled controls.DeleteTemporary source state = Changes (with_macros permanent_macros state)
controlled controls.Delete source state = Changes (with_macros (λ macros. without macros state.macro_id) state)
controlled controls.MakeTemporary source state = Changes (with_macros (λ macros. macro_made macros state.macro_id false) state)
controlled controls.MakePermanent source state = Changes (with_macros (λ macros. macro_made macros state.macro_id true) state)

abbrev pub control_with : Option MacroControl → Source → State → Effect
control_with None source state = Changes state
control_with (Some control) source state = controlled control source state

abbrev pub control_macro : Source → (number : ℤ) → State → Effect
control_macro source number state = control_with (control_of number) source state
