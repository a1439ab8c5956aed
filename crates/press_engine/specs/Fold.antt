-- What commands mean: the command table, folded over them. A command is carried out whole. Where
-- it starts a macro, the macro's commands are carried out, one after another, and then its body
-- ends: a call restores what it kept, and what an execute changed stays. Before a page closes, the
-- overlay's commands are carried out. Then raster graphics ends, what a call restores is restored,
-- and the cursor is put back; all else that the overlay changed stays. Then the page closes, and
-- the command that closed it does the rest (PCL 5 Printer Language Technical Reference Manual,
-- "Macros").
use Rattle.std.specs.Prelude.{ℕ, zero, suc, List, [], ◌∷◌, Option, Some, None}
use Rattle.press_cmd.specs.Token.{Token}
use Rattle.press_cursor.specs.Cursor.{position}
use Rattle.press_table.specs.declared.effect.BodyEnd.{BodyEnd}
use Rattle.press_table.specs.declared.effect.EjectCause.{EjectCause}
use Rattle.press_table.specs.declared.effect.Source.TheVariants as sources
use Rattle.press_table.specs.declared.state.State.{State}
use Rattle.press_table.specs.Calls.{kept_of, overlay_body}
use Rattle.press_table.specs.Outcome.{Effect, Closes, Starts}
use Rattle.press_table.specs.Table.{effect_on}
use Rattle.press_engine.specs.declared.machine.Machine.{Machine}
use Rattle.press_engine.specs.Machine.{StepResult, silent, then_run, with_state, taken, enter_body, leave_body, state_of}
use Rattle.press_engine.specs.Machine.{overlay_levels, enter_overlay, leave_overlay, finish_without_overlay, macro_levels, source_at}

-- Commands one after another: each from the machine that the one before it left, and all outputs
-- in order.
unfoldable pub fold : (Token → Machine → StepResult) → List Token → Machine → StepResult
fold one [] machine = silent machine
fold one (command ∷ commands) machine =
    then_run (one command machine).outputs (fold one commands (one command machine).machine)

-- a body's commands, and then its end
abbrev pub body_and_end : StepResult → (Machine → StepResult) → StepResult
body_and_end body end = then_run body.outputs (end body.machine)

-- A macro that a command starts: its commands, and then its end. A call restores what its row
-- kept, and an execute nothing. As many bodies run then as before; the count of steps and what the
-- last step took stay as the body left them.
abbrev pub macro_whole : (Token → Machine → StepResult) → List Token → BodyEnd → State → Machine → StepResult
macro_whole one commands end state machine =
    body_and_end (fold one commands (enter_body end state machine)) (λ after. silent (leave_body end machine.depth after))

-- What an effect leaves in an overlay. No row closes a page there; a reset, the universal exit and
-- PJL lines are never recorded, and nothing else could send. So nothing is lost here.
abbrev pub effect_in_overlay : (Token → Machine → StepResult) → Machine → Effect → StepResult
effect_in_overlay one machine (Starts commands end state) = macro_whole one commands end state machine
effect_in_overlay one machine effect = silent (with_state (state_of effect) machine)

-- A command of an overlay, or of a macro in it, carried out whole, where so many macros may start.
-- Where none may, a command that would start one changes nothing.
unfoldable pub whole_in_overlay : (levels : ℕ) → Token → Machine → StepResult
whole_in_overlay zero command machine =
    silent (with_state (state_of (effect_on sources.Overlay command machine.state)) (taken sources.Overlay command machine))
whole_in_overlay (suc more) command machine =
    effect_in_overlay (whole_in_overlay more) (taken sources.Overlay command machine) (effect_on sources.Overlay command machine.state)

-- A page closes behind an overlay: what a call restores is as it was before the overlay, the
-- cursor is put back where it was then, and after that the page closes.
abbrev pub close_behind : EjectCause → (before after : Machine) → StepResult
close_behind cause before after =
    let behind = leave_overlay (kept_of before.state) (position before.state.cursor) before.depth after in
    finish_without_overlay behind (Closes cause behind.state)

-- A page closes, behind an overlay where there is one, and the command that closed it does the
-- rest. What it does before the close it has done.
abbrev pub close_whole : Option (List Token) → EjectCause → Machine → StepResult
close_whole None cause machine = finish_without_overlay machine (Closes cause machine.state)
close_whole (Some commands) cause machine =
    body_and_end (fold (whole_in_overlay overlay_levels) commands (enter_overlay machine)) (close_behind cause machine)

-- What an effect leaves outside an overlay where no macro may start: one that would start changes
-- nothing.
abbrev pub effect_whole : Machine → Effect → StepResult
effect_whole machine (Closes cause state) = close_whole (overlay_body state) cause (with_state state machine)
effect_whole machine effect = finish_without_overlay machine effect

-- The same where one may: it is carried out whole.
abbrev pub effect_outside : (Token → Machine → StepResult) → Machine → Effect → StepResult
effect_outside one machine (Starts commands end state) = macro_whole one commands end state machine
effect_outside one machine effect = effect_whole machine effect

-- A command outside an overlay, carried out whole, where so many macros may start, one in another.
unfoldable pub whole_at : (levels : ℕ) → Token → Machine → StepResult
whole_at zero command machine = effect_whole (taken (source_at 0) command machine) (effect_on (source_at 0) command machine.state)
whole_at (suc more) command machine =
    effect_outside (whole_at more) (taken (source_at (suc more)) command machine) (effect_on (source_at (suc more)) command machine.state)

-- A command of the stream, and commands of the stream one after another.
abbrev pub run : Token → Machine → StepResult
run = whole_at macro_levels

abbrev pub run_all : List Token → Machine → StepResult
run_all = fold run
