-- Worked streams of macros and the overlay, computed on the fold from power on, without a word of the trace. What is found under a
-- macro ID does not compute: at each command that looks a macro up it is put in by what a map says of it.
use Rattle.std.proofs.Common.{◌≡◌, ◌∙◌, ℕ, suc, false, true, List, [], ◌∷◌, ◌++◌, Some, refl, sym, ap}
use Rattle.std.proofs.lemmas.List.{append_assoc, append-nil}
use Rattle.press_cmd.specs.Token.{Token, Uel}
use Rattle.press_cmd.specs.Kinds.{kind_of}
use Rattle.press_macros.specs.Macros.{abandoned}
use Rattle.press_sink.specs.Sending.{Output}
use Rattle.press_table.specs.declared.effect.BodyEnd.TheVariants as ends
use Rattle.press_table.specs.declared.effect.EjectCause.{EjectCause}
use Rattle.press_table.specs.declared.effect.EjectCause.TheVariants as causes
use Rattle.press_table.specs.declared.effect.Source.TheVariants as sources
use Rattle.press_table.specs.declared.refusal.Refusal.TheVariants as refusals
use Rattle.press_table.specs.declared.operation.Operation.TheVariants.{FormFeed, Reset}
use Rattle.press_table.specs.declared.state.State.{State}
use Rattle.press_table.specs.Calls.{kept_of, overlay_body}
use Rattle.press_table.specs.Macros.{start_body}
use Rattle.press_table.specs.Outcome.{Effect, Changes, Closes, Starts, is_marked, with_macros}
use Rattle.press_table.specs.Table.{effect_on, is_recorded, is_skipped}
use Rattle.press_engine.specs.declared.machine.Last.{Last}
use Rattle.press_engine.specs.declared.machine.Last.TheVariants as lasts
use Rattle.press_engine.specs.declared.machine.Machine.{Machine}
use Rattle.press_engine.specs.Fold.{fold, body_and_end, macro_whole, whole_in_overlay, close_whole, effect_whole, effect_outside, whole_at, run_all}
use Rattle.press_engine.specs.Machine.{StepResult, silent, then_run, with_state, taken, power_on, source_at}
use Rattle.press_engine.proofs.worked.Macros.{call, call_effect, call_end, form_feed, inside_call, letter, dotted, sheet_of, page_and_exit, exit}
use Rattle.press_engine.proofs.worked.Macros.{dot_and_move, body, definition, dot_twice, two_dots_sheet, macro_is_found}
use Rattle.press_engine.proofs.worked.Macros.{four_dots, overlaid, open_definition, exit_closes, second_macro_is_found, feed_closes, reset_closes}
use Rattle.press_engine.proofs.worked.Macros.{execute, deleting, deleting_defined, macro_is_gone}

-- Commands, and then others; a command, and then others; and one alone.
fold-append : (one : Token → Machine → StepResult) (commands others : List Token) (machine : Machine)
    → fold one (commands ++ others) machine ≡ then_run (fold one commands machine).outputs (fold one others (fold one commands machine).machine)
unfolding fold
fold-append one [] others machine = refl
fold-append one (command ∷ commands) others machine =
    let first = one command machine in
    let front = fold one commands first.machine in
    let back = fold one others front.machine in
    ap (then_run first.outputs) (fold-append one commands others first.machine)
    ∙ (λ i. record { machine = back.machine; outputs = sym (append_assoc first.outputs front.outputs back.outputs) i })

fold-cons : (one : Token → Machine → StepResult) (command : Token) (commands : List Token) (machine : Machine)
    → fold one (command ∷ commands) machine ≡ then_run (one command machine).outputs (fold one commands (one command machine).machine)
unfolding fold
fold-cons one command commands machine = refl

fold-one : (one : Token → Machine → StepResult) (command : Token) (machine : Machine) → fold one (command ∷ []) machine ≡ one command machine
unfolding fold
fold-one one command machine =
    λ i. record { machine = (one command machine).machine; outputs = append-nil (one command machine).outputs i }

-- A command of the stream whose effect is this, carried out whole.
whole_by : (command : Token) (before : Machine) (effect : Effect) → effect_on (source_at 2) command before.state ≡ effect
    → whole_at 2 command before ≡ effect_outside (whole_at 1) (taken sources.Stream command before) effect
unfolding whole_at
whole_by command before effect is = ap (effect_outside (whole_at 1) (taken sources.Stream command before)) is

-- What is told of a run: how many steps were taken, how many bodies run, what the last step took, and what went out.
abbrev Told : Type 0
Told = ℕ × ℕ × Last × List Output

abbrev told_of : StepResult → Told
told_of run = (run.machine.step, run.machine.depth, run.machine.last, run.outputs)

-- the machine before the call of the stream, before the call in the macro, and before that in the macro within
abbrev first : Machine
first = (run_all definition power_on).machine

abbrev second : Machine
second = (fold (whole_at 1) dot_and_move (inside_call first)).machine

abbrev third : Machine
third = (fold (whole_at 0) dot_and_move (inside_call second)).machine

first_starts : effect_on (source_at 2) call first.state ≡ call_effect body first
unfolding fold whole_at
first_starts = ap (λ found. start_body found (ends.Call (kept_of first.state)) first.state) (macro_is_found body)

second_starts : effect_on (source_at 1) call second.state ≡ call_effect body second
unfolding fold whole_at
second_starts = ap (λ found. start_body found (ends.Call (kept_of second.state)) second.state) (macro_is_found body)

third_starts : effect_on (source_at 0) call third.state ≡ call_effect body third
unfolding fold whole_at
third_starts = ap (λ found. start_body found (ends.Call (kept_of third.state)) third.state) (macro_is_found body)

-- The third one changes nothing.
third_call : whole_at 0 call third ≡ silent (taken sources.Macro call third)
unfolding whole_at
third_call = ap (effect_whole (taken sources.Macro call third)) third_starts

-- A call of a body that ends in a call: its commands before that, what that leaves, and then the end, which restores.
abbrev before_inner : (levels : ℕ) → (before : Machine) → Machine
before_inner levels before = (fold (whole_at levels) dot_and_move (inside_call before)).machine

abbrev called_with : (levels : ℕ) → (before : Machine) → (inner : StepResult) → StepResult
called_with levels before inner =
    body_and_end (then_run (fold (whole_at levels) dot_and_move (inside_call before)).outputs inner) (call_end before)

call_of : (levels : ℕ) (before : Machine) (inner : StepResult)
    → effect_on (source_at (suc levels)) call before.state ≡ call_effect body before
    → whole_at levels call (before_inner levels before) ≡ inner
    → taken (source_at (suc levels)) call before ≡ taken sources.Stream call before
    → whole_at (suc levels) call before ≡ called_with levels before inner
unfolding whole_at
call_of levels before inner starts same from =
    ap (effect_outside (whole_at levels) (taken (source_at (suc levels)) call before)) starts
    ∙ ap (λ at. effect_outside (whole_at levels) at (call_effect body before)) from
    ∙ ap (λ run. body_and_end run (call_end before))
    (fold-append (whole_at levels) dot_and_move (call ∷ []) (inside_call before)
    ∙ ap (then_run (fold (whole_at levels) dot_and_move (inside_call before)).outputs) (fold-one (whole_at levels) call (before_inner levels before) ∙ same))

abbrev called : StepResult
called = called_with 1 first (called_with 0 second (silent (taken sources.Macro call third)))

first_call : whole_at 2 call first ≡ called
first_call = call_of 1 first (called_with 0 second (silent (taken sources.Macro call third))) first_starts (call_of 0 second (silent (taken sources.Macro call third)) second_starts third_call refl) refl

-- The definition, the call and what comes then.
abbrev stream_with : (others : List Token) → (inner : StepResult) → StepResult
stream_with others inner = then_run (run_all definition power_on).outputs (then_run inner.outputs (run_all others inner.machine))

whole_stream : (others : List Token) → run_all (dot_twice others) power_on ≡ stream_with others called
whole_stream others =
    fold-append (whole_at 2) definition (call ∷ others) power_on
    ∙ ap (then_run (run_all definition power_on).outputs)
    (fold-cons (whole_at 2) call others first ∙ ap (λ inner. then_run inner.outputs (run_all others inner.machine)) first_call)

computed_dots : told_of (stream_with page_and_exit called) ≡ (23, 0, lasts.Ran (kind_of Uel), two_dots_sheet ∷ [])
unfolding fold whole_at whole_in_overlay
computed_dots = refl

two_dots : told_of (run_all (dot_twice page_and_exit) power_on) ≡ (23, 0, lasts.Ran (kind_of Uel), two_dots_sheet ∷ [])
two_dots = ap told_of (whole_stream page_and_exit) ∙ computed_dots

computed_x : (stream_with [] called).machine.state.cursor.x ≡ 96
unfolding fold whole_at
computed_x = refl

the_cursor_stays_where_the_calls_left_it : (run_all (dot_twice []) power_on).machine.state.cursor.x ≡ 96
the_cursor_stays_where_the_calls_left_it = ap (λ (run : StepResult). run.machine.state.cursor.x) (whole_stream []) ∙ computed_x

-- A command of the stream that closes the page, where the overlay's macro is found.
close_with_overlay : (command : Token) (commands : List Token) (cause : EjectCause) (before : Machine) (state : State)
    → effect_on (source_at 2) command before.state ≡ Closes cause state
    → overlay_body state ≡ Some commands
    → whole_at 2 command before ≡ close_whole (Some commands) cause (with_state state (taken sources.Stream command before))
close_with_overlay command commands cause before state closes found =
    whole_by command before (Closes cause state) closes
    ∙ ap (λ body. close_whole body cause (with_state state (taken sources.Stream command before))) found

abbrev with_overlay : Machine
with_overlay = (run_all overlaid power_on).machine

-- a form feed, with the overlay
abbrev fed : (before : Machine) → StepResult
fed before = close_whole (Some four_dots) causes.Feed (with_state before.state (taken sources.Stream form_feed before))

first_overlay : overlay_body with_overlay.state ≡ Some four_dots
unfolding fold whole_at
first_overlay = second_macro_is_found four_dots

first_feed_closes : effect_on (source_at 2) form_feed with_overlay.state ≡ Closes causes.Feed with_overlay.state
unfolding fold whole_at
first_feed_closes = feed_closes with_overlay.state refl refl refl

first_feed : whole_at 2 form_feed with_overlay ≡ fed with_overlay
first_feed = close_with_overlay form_feed four_dots causes.Feed with_overlay with_overlay.state first_feed_closes first_overlay

abbrev second_page : Machine
second_page = (fed with_overlay).machine

second_is_carried_out : is_recorded form_feed second_page.state ≡ false
unfolding fold whole_at whole_in_overlay
second_is_carried_out = refl

second_has_effect : is_skipped sources.Stream FormFeed second_page.state ≡ false
unfolding fold whole_at whole_in_overlay
second_has_effect = refl

second_stays_in_place : second_page.state.environment.settings.line_termination.return_before_feed ≡ false
unfolding fold whole_at whole_in_overlay
second_stays_in_place = refl

second_overlay : overlay_body second_page.state ≡ Some four_dots
unfolding fold whole_at whole_in_overlay
second_overlay = second_macro_is_found four_dots

second_feed : whole_at 2 form_feed second_page ≡ fed second_page
second_feed =
    close_with_overlay form_feed four_dots causes.Feed second_page second_page.state
    (feed_closes second_page.state second_is_carried_out second_has_effect second_stays_in_place) second_overlay

abbrev two_pages : StepResult
two_pages =
    then_run (run_all overlaid power_on).outputs
    (then_run (fed with_overlay).outputs (then_run (fed second_page).outputs (run_all exit (fed second_page).machine)))

whole_pages : run_all (overlaid ++ (form_feed ∷ form_feed ∷ exit)) power_on ≡ two_pages
whole_pages =
    fold-append (whole_at 2) overlaid (form_feed ∷ form_feed ∷ exit) power_on
    ∙ ap (then_run (run_all overlaid power_on).outputs)
    (fold-cons (whole_at 2) form_feed (form_feed ∷ exit) with_overlay
    ∙ ap (λ run. then_run run.outputs (run_all (form_feed ∷ exit) run.machine)) first_feed
    ∙ ap (then_run (fed with_overlay).outputs)
    (fold-cons (whole_at 2) form_feed exit second_page ∙ ap (λ run. then_run run.outputs (run_all exit run.machine)) second_feed))

abbrev overlaid_sheet : Output
overlaid_sheet = sheet_of (dotted 75 187 4 letter)

computed_pages : told_of two_pages ≡ (19, 0, lasts.Ran (kind_of Uel), overlaid_sheet ∷ overlaid_sheet ∷ [])
unfolding fold whole_at whole_in_overlay
computed_pages = refl

every_page_has_the_overlay :
    told_of (run_all (overlaid ++ (form_feed ∷ form_feed ∷ exit)) power_on)
    ≡ (19, 0, lasts.Ran (kind_of Uel), overlaid_sheet ∷ overlaid_sheet ∷ [])
every_page_has_the_overlay = ap told_of whole_pages ∙ computed_pages

-- the exit drops the open definition before the overlay runs
abbrev in_definition : Machine
in_definition = (run_all open_definition power_on).machine

abbrev dropped : State
dropped = with_macros abandoned (record in_definition.state { hp_gl = false })

exit_is_carried_out : is_recorded Uel in_definition.state ≡ false
unfolding fold whole_at
exit_is_carried_out = refl

exit_has_effect : is_skipped sources.Stream Reset in_definition.state ≡ false
unfolding fold whole_at
exit_has_effect = refl

page_is_marked : is_marked dropped ≡ true
unfolding fold whole_at
page_is_marked = refl

overlay_under_the_exit : overlay_body dropped ≡ Some four_dots
unfolding fold whole_at
overlay_under_the_exit = second_macro_is_found four_dots

abbrev exit_closed : StepResult
exit_closed = close_whole (Some four_dots) exit_closes (with_state dropped (taken sources.Stream Uel in_definition))

exit_gives : whole_at 2 Uel in_definition ≡ exit_closed
exit_gives =
    close_with_overlay Uel four_dots exit_closes in_definition dropped
    (reset_closes in_definition.state exit_is_carried_out exit_has_effect page_is_marked) overlay_under_the_exit

abbrev last_page : StepResult
last_page = then_run (run_all open_definition power_on).outputs exit_closed

whole_exit : run_all (open_definition ++ exit) power_on ≡ last_page
whole_exit =
    fold-append (whole_at 2) open_definition exit power_on
    ∙ ap (then_run (run_all open_definition power_on).outputs) (fold-one (whole_at 2) Uel in_definition ∙ exit_gives)

abbrev exit_sheet : Output
exit_sheet = sheet_of (dotted 75 187 4 (dotted 75 187 1 letter))

computed_last_page : told_of last_page ≡ (18, 0, lasts.Refused (kind_of form_feed) refusals.Overlay, exit_sheet ∷ [])
unfolding fold whole_at whole_in_overlay
computed_last_page = refl

the_exit_drops_a_definition :
    told_of (run_all (open_definition ++ exit) power_on) ≡ (18, 0, lasts.Refused (kind_of form_feed) refusals.Overlay, exit_sheet ∷ [])
the_exit_drops_a_definition = ap told_of whole_exit ∙ computed_last_page

-- A body that deletes its own macro runs on, and a second execute finds no macro.
abbrev ready : Machine
ready = (run_all deleting_defined power_on).machine

abbrev executed : StepResult
executed = macro_whole (whole_at 1) deleting ends.Execute ready.state (taken sources.Stream execute ready)

execute_starts : effect_on (source_at 2) execute ready.state ≡ Starts deleting ends.Execute ready.state
unfolding fold whole_at
execute_starts = ap (λ found. start_body found ends.Execute ready.state) (macro_is_found deleting)

second_changes : effect_on (source_at 2) execute executed.machine.state ≡ Changes executed.machine.state
unfolding fold whole_at
second_changes = ap (λ found. start_body found ends.Execute executed.machine.state) (macro_is_gone deleting)

first_execute : whole_at 2 execute ready ≡ executed
first_execute = whole_by execute ready (Starts deleting ends.Execute ready.state) execute_starts

second_execute : whole_at 2 execute executed.machine ≡ silent (taken sources.Stream execute executed.machine)
second_execute = whole_by execute executed.machine (Changes executed.machine.state) second_changes

abbrev after_deletion : StepResult
after_deletion =
    then_run (run_all deleting_defined power_on).outputs
    (then_run executed.outputs (then_run [] (run_all page_and_exit (taken sources.Stream execute executed.machine))))

whole_deletion : run_all (deleting_defined ++ (execute ∷ execute ∷ page_and_exit)) power_on ≡ after_deletion
whole_deletion =
    fold-append (whole_at 2) deleting_defined (execute ∷ execute ∷ page_and_exit) power_on
    ∙ ap (then_run (run_all deleting_defined power_on).outputs)
    (fold-cons (whole_at 2) execute (execute ∷ page_and_exit) ready
    ∙ ap (λ run. then_run run.outputs (run_all (execute ∷ page_and_exit) run.machine)) first_execute
    ∙ ap (then_run executed.outputs)
    (fold-cons (whole_at 2) execute page_and_exit executed.machine
    ∙ ap (λ run. then_run run.outputs (run_all page_and_exit run.machine)) second_execute))

abbrev one_dot_sheet : Output
one_dot_sheet = sheet_of (dotted 75 187 1 letter)

computed_deletion : told_of after_deletion ≡ (15, 0, lasts.Ran (kind_of Uel), one_dot_sheet ∷ [])
unfolding fold whole_at whole_in_overlay
computed_deletion = refl

a_body_outlives_its_macro :
    told_of (run_all (deleting_defined ++ (execute ∷ execute ∷ page_and_exit)) power_on)
    ≡ (15, 0, lasts.Ran (kind_of Uel), one_dot_sheet ∷ [])
a_body_outlives_its_macro = ap told_of whole_deletion ∙ computed_deletion
