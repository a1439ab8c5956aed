-- What a command begins: its item, as yet without the ends of bodies that are used up with it; and the body that it starts, if it starts
-- one, with what comes when that is used up (PCL 5 Printer Language Technical Reference Manual, "Macros").
use Rattle.std.specs.Prelude.{ℕ, zero, suc, List, [], ◌∷◌, Option, Some, None, Bool, true, false}
use Rattle.press_cmd.specs.Token.{Token}
use Rattle.press_cursor.specs.Cursor.{position}
use Rattle.press_table.specs.declared.effect.BodyEnd.{BodyEnd}
use Rattle.press_table.specs.declared.effect.EjectCause.{EjectCause}
use Rattle.press_table.specs.declared.effect.Source.{Source}
use Rattle.press_table.specs.declared.effect.Source.TheVariants as sources
use Rattle.press_table.specs.declared.state.State.{State}
use Rattle.press_table.specs.Calls.{kept_of, overlay_body}
use Rattle.press_table.specs.Outcome.{Effect, Closes, Starts}
use Rattle.press_table.specs.Table.{effect_on}
use Rattle.press_engine.specs.declared.activation.Activation.{Activation}
use Rattle.press_engine.specs.declared.activation.ActivationEnd.{ActivationEnd}
use Rattle.press_engine.specs.declared.activation.ActivationEnd.TheVariants as ends_by
use Rattle.press_engine.specs.declared.machine.Machine.{Machine}
use Rattle.press_engine.specs.Machine.{StepResult, silent, with_state, taken, enter_body, leave_body, state_of}
use Rattle.press_engine.specs.Machine.{overlay_levels, enter_overlay, leave_overlay, finish_without_overlay, source_at}

-- a page close, where no overlay is left to run before it
abbrev pub finish_close : EjectCause → Machine → StepResult
finish_close cause machine = finish_without_overlay machine (Closes cause machine.state)

-- what comes when a body is used up: what a call restores is restored; behind an overlay the cursor is put back, too, and then the page
-- closes that waited for it
abbrev pub end_by : ActivationEnd → (depth : ℕ) → Machine → StepResult
end_by (ends_by.Macro end) depth after = silent (leave_body end depth after)
end_by (ends_by.Close cause kept place) depth after = finish_close cause (leave_overlay kept place depth after)

abbrev pub end_of : Activation → Machine → StepResult
end_of activation = end_by activation.end activation.depth

-- the item of a command, and the body that it starts: one body at most
pub record Begun : Type 0 where
  pub item : StepResult
  pub started : List Activation

abbrev pub begun_only : StepResult → Begun
begun_only item = record { item = item; started = [] }

-- the body of a macro, where one more may start; else the state alone
abbrev pub begun_body : Bool → (macro_levels : ℕ) → List Token → BodyEnd → State → Machine → Begun
begun_body in_overlay zero commands end state machine = begun_only (silent (with_state state machine))
begun_body in_overlay (suc more) commands end state machine = record {
  item = silent (enter_body end state machine);
  started = record { body = commands; in_overlay = in_overlay; macro_levels = more; depth = machine.depth; end = ends_by.Macro end } ∷ [];
}

-- a page close: the body of the overlay before it, where there is one
abbrev pub begun_close : Option (List Token) → EjectCause → Machine → Begun
begun_close None cause machine = begun_only (finish_close cause machine)
begun_close (Some commands) cause machine = record {
  item = silent (enter_overlay machine);
  started = record {
    body = commands;
    in_overlay = true;
    macro_levels = overlay_levels;
    depth = machine.depth;
    end = ends_by.Close cause (kept_of machine.state) (position machine.state.cursor);
  } ∷ [];
}

-- What an effect begins, where so many macros may start: in an overlay, where nothing goes out and no page closes; and outside.
abbrev pub begun_in_overlay : (macro_levels : ℕ) → Machine → Effect → Begun
begun_in_overlay levels machine (Starts commands end state) = begun_body true levels commands end state machine
begun_in_overlay levels machine effect = begun_only (silent (with_state (state_of effect) machine))

abbrev pub begun_outside : (macro_levels : ℕ) → Machine → Effect → Begun
begun_outside levels machine (Starts commands end state) = begun_body false levels commands end state machine
begun_outside levels machine (Closes cause state) = begun_close (overlay_body state) cause (with_state state machine)
begun_outside levels machine effect = begun_only (finish_without_overlay machine effect)

abbrev pub begun : Bool → (macro_levels : ℕ) → Machine → Effect → Begun
begun true = begun_in_overlay
begun false = begun_outside

-- where the commands of a body come from
abbrev pub source_in : Bool → (macro_levels : ℕ) → Source
source_in true levels = sources.Overlay
source_in false levels = source_at levels

-- what a command begins
abbrev pub begins : Bool → (macro_levels : ℕ) → Token → Machine → Begun
begins in_overlay levels command machine =
    let source = source_in in_overlay levels in
    begun in_overlay levels (taken source command machine) (effect_on source command machine.state)
