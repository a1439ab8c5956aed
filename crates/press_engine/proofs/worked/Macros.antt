-- Worked streams of macros and the overlay, computed on the trace from power on. What is found under a macro ID does not
-- compute: at each command that looks a macro up it is put in by what a map says of it.
use Prim.Native.Char.{Char, code}
use Prim.Native.String.{String}
use Rattle.std.proofs.Common.{◌≡◌, ◌∙◌, ℕ, suc, false, true, List, [], ◌∷◌, ◌++◌, Some, None, map, refl, ap, rules}
use Rattle.std.proofs.lemmas.List.{append-nil}
use Rattle.std.specs.FinMap as maps
use Rattle.std.specs.FinMap.{gets}
use Rattle.std.specs.Prelude.{codes, if◌then◌else◌}
use Rattle.press_bits.specs.DotRule.{both_transparent}
use Rattle.press_bits.specs.Mark.{painted}
use Rattle.press_bits.specs.Page.{Page, blank}
use Rattle.press_cmd.specs.Token.{Token, Grouped, Control, Uel}
use Rattle.press_cmd.specs.Kinds.{kind_of}
use Rattle.press_fill.specs.Fill.{fill_mark}
use Rattle.press_store.specs.Things.{stored}
use Rattle.press_store.proofs.StoreLemmas.{found-stored}
use Rattle.press_macros.specs.Macros.{Macros, abandoned, body_of, without}
use Rattle.press_page.specs.declared.media.Orientation.TheVariants.{Portrait}
use Rattle.press_pattern.specs.Solid.{solid_black}
use Rattle.press_sink.specs.Sending.{Output, Deliver}
use Rattle.press_table.specs.declared.effect.BodyEnd.TheVariants as ends
use Rattle.press_table.specs.declared.effect.EjectCause.{EjectCause}
use Rattle.press_table.specs.declared.effect.EjectCause.TheVariants as causes
use Rattle.press_table.specs.declared.effect.PageChange.TheVariants as page_changes
use Rattle.press_table.specs.declared.effect.Source.TheVariants as sources
use Rattle.press_table.specs.declared.refusal.Refusal.TheVariants as refusals
use Rattle.press_engine.specs.declared.machine.Last.{Last}
use Rattle.press_engine.specs.declared.machine.Last.TheVariants as lasts
use Rattle.press_engine.specs.declared.machine.Machine.{Machine}
use Rattle.press_table.specs.declared.operation.Operation.TheVariants.{FormFeed, Reset}
use Rattle.press_table.specs.declared.state.State.{State}
use Rattle.press_table.specs.Calls.{kept_of, overlay_body}
use Rattle.press_table.specs.Macros.{start_body, record_command}
use Rattle.press_table.specs.Outcome.{Effect, Changes, MayAllocate, Stays, Closes, Starts, is_marked, with_macros}
use Rattle.press_engine.specs.Begun.{begun_outside, begun_close}
use Rattle.press_engine.specs.Machine.{StepResult, silent, with_state, taken, enter_body, leave_body, power_on, source_at, overlay_levels}
use Rattle.press_table.specs.Motion.{to_left_margin}
use Rattle.press_table.specs.Table.{effect_on, is_recorded, is_skipped, table_row, row_unless_skipped}
use Rattle.press_engine.specs.Trace.{last_machine, with_end, begun_items, inside_of, trace, trace_each, trace_at, trace_in_overlay}
use Rattle.press_engine.proofs.TraceLaws.{trace_each-append}

-- ESC, a parameterized character, a group character, a field and a termination character
abbrev pub sequence : Char → Char → String → Char → Token
sequence character group field end = Grouped (code character) (code group) (codes field) (code end) []

abbrev pub macro_id : String → Token
macro_id id = sequence "&" "f" id "Y"

abbrev pub macro_control : String → Token
macro_control number = sequence "&" "f" number "X"

abbrev pub call : Token
call = macro_control "3"

-- a rectangle of so many units in a line, painted black
abbrev pub dots : String → List Token
dots width = sequence "*" "c" width "A" ∷ sequence "*" "c" "1" "B" ∷ sequence "*" "c" "0" "P" ∷ []

abbrev pub form_feed : Token
form_feed = Control 12

-- The macro that was defined is found under its ID.
abbrev pub one_macro : (id : ℕ) → List Token → Macros
one_macro id commands = record { stored = stored maps.empty id commands; definition = None }

pub macro_is_found : (commands : List Token) → body_of (one_macro 1 commands) 1 ≡ Some commands
macro_is_found commands = found-stored maps.empty 1 commands

-- the items of an effect outside an overlay, where so many macros may start inside of what it starts
abbrev outside_items : (more : ℕ) → Machine → Effect → List StepResult
outside_items more machine effect = begun_items (inside_of (trace_at more)) (begun_outside (suc more) machine effect)

-- A call of a macro that is found gives the items of its body.
abbrev pub call_end : (before : Machine) → Machine → StepResult
call_end before after = silent (leave_body (ends.Call (kept_of before.state)) before.depth after)

abbrev pub inside_call : Machine → Machine
inside_call before = enter_body (ends.Call (kept_of before.state)) before.state (taken sources.Stream call before)

abbrev pub call_effect : List Token → Machine → Effect
call_effect commands before = Starts commands (ends.Call (kept_of before.state)) before.state

call_items :
    (macro_levels : ℕ) (commands : List Token) (before : Machine)
    → effect_on (source_at (suc macro_levels)) call before.state ≡ call_effect commands before
    → trace_at (suc macro_levels) call before ≡ outside_items macro_levels (taken (source_at (suc macro_levels)) call before) (call_effect commands before)
unfolding trace_at
call_items macro_levels commands before starts = ap (outside_items macro_levels (taken (source_at (suc macro_levels)) call before)) starts

-- ESC*p0x0Y, ESC&f1y0X, ESC*c1a1b0P, ESC*p+2X, ESC&f3X, ESC&f1X, ESC&f3X: a macro that paints a dot, moves two units and
-- calls itself, is called; a third one does not run
abbrev pub dot_and_move : List Token
dot_and_move = dots "1" ++ (sequence "*" "p" "+2" "X" ∷ [])

abbrev pub body : List Token
body = dot_and_move ++ (call ∷ [])

abbrev pub definition : List Token
definition =
    (sequence "*" "p" "0" "X" ∷ sequence "*" "p" "0" "Y" ∷ macro_id "1" ∷ macro_control "0" ∷ body) ++ (macro_control "1" ∷ [])

-- the machine before the call of the stream, before the call in the macro, and before that in the macro within
abbrev pub first : Machine
first = last_machine power_on (trace definition power_on)

abbrev second : Machine
second = last_machine (inside_call first) (trace_each (trace_at 1) dot_and_move (inside_call first))

abbrev third : Machine
third = last_machine (inside_call second) (trace_each (trace_at 0) dot_and_move (inside_call second))

first_starts : effect_on (source_at 2) call first.state ≡ call_effect body first
unfolding trace_each trace_at
first_starts = ap (λ found. start_body found (ends.Call (kept_of first.state)) first.state) (macro_is_found body)

second_starts : effect_on (source_at 1) call second.state ≡ call_effect body second
unfolding trace_each trace_at
second_starts = ap (λ found. start_body found (ends.Call (kept_of second.state)) second.state) (macro_is_found body)

-- The third one would start too, but no body may.
third_starts : effect_on (source_at 0) call third.state ≡ call_effect body third
unfolding trace_each trace_at
third_starts = ap (λ found. start_body found (ends.Call (kept_of third.state)) third.state) (macro_is_found body)

third_item : trace_at 0 call third ≡ silent (taken sources.Macro call third) ∷ []
unfolding trace_at
third_item = ap (λ effect. begun_items (λ body. trace_in_overlay overlay_levels) (begun_outside 0 (taken sources.Macro call third) effect)) third_starts

-- The items of commands: those of the first, and then those of the others; and those of a body that ends in a call, by those of
-- the call.
trace_each-cons :
    (tracing : Token → Machine → List StepResult) (command : Token) (commands : List Token) (machine : Machine)
    → trace_each tracing (command ∷ commands) machine
    ≡ tracing command machine ++ trace_each tracing commands (last_machine machine (tracing command machine))
unfolding trace_each
trace_each-cons tracing command commands machine = refl

trace_each-one :
    (tracing : Token → Machine → List StepResult) (command : Token) (machine : Machine)
    → trace_each tracing (command ∷ []) machine ≡ tracing command machine
unfolding trace_each
trace_each-one tracing command machine = append-nil (tracing command machine)

abbrev body_with : (macro_levels : ℕ) → (prefix : List Token) → (before : Machine) → (inner : List StepResult) → List StepResult
body_with macro_levels prefix before inner =
    with_end (call_end before) (silent (inside_call before)) (trace_each (trace_at macro_levels) prefix (inside_call before) ++ inner)

abbrev after_prefix : (macro_levels : ℕ) → (prefix : List Token) → (before : Machine) → Machine
after_prefix macro_levels prefix before = last_machine (inside_call before) (trace_each (trace_at macro_levels) prefix (inside_call before))

call_after :
    (macro_levels : ℕ) (prefix : List Token) (before : Machine) (inner : List StepResult)
    → trace_at macro_levels call (after_prefix macro_levels prefix before) ≡ inner
    → taken (source_at (suc macro_levels)) call before ≡ taken sources.Stream call before
    → outside_items macro_levels (taken (source_at (suc macro_levels)) call before) (call_effect (prefix ++ (call ∷ [])) before)
    ≡ body_with macro_levels prefix before inner
call_after macro_levels prefix before inner same from =
    ap (λ at. outside_items macro_levels at (call_effect (prefix ++ (call ∷ [])) before)) from
    ∙ ap (λ items. with_end (call_end before) (silent (inside_call before)) items)
    (trace_each-append (trace_at macro_levels) prefix (call ∷ []) (inside_call before)
    ∙ ap (λ more. trace_each (trace_at macro_levels) prefix (inside_call before) ++ more)
    (trace_each-one (trace_at macro_levels) call (after_prefix macro_levels prefix before) ∙ same))

second_items : trace_at 1 call second ≡ body_with 0 dot_and_move second (silent (taken sources.Macro call third) ∷ [])
second_items =
    call_items 0 body second second_starts
    ∙ call_after 0 dot_and_move second (silent (taken sources.Macro call third) ∷ []) third_item refl

abbrev pub called : List StepResult
called = body_with 1 dot_and_move first (body_with 0 dot_and_move second (silent (taken sources.Macro call third) ∷ []))

pub first_items : trace_at 2 call first ≡ called
first_items =
    call_items 1 body first first_starts
    ∙ call_after 1 dot_and_move first (body_with 0 dot_and_move second (silent (taken sources.Macro call third) ∷ [])) second_items refl

-- The items of the definition, the call and what comes then.
abbrev stream_with : (others : List Token) → (inner : List StepResult) → List StepResult
stream_with others inner =
    trace definition power_on ++ (inner ++ trace_each (trace_at 2) others (last_machine first inner))

abbrev pub dot_twice : (others : List Token) → List Token
dot_twice others = definition ++ (call ∷ others)

items_of : (others : List Token) → trace (dot_twice others) power_on ≡ stream_with others called
items_of others =
    trace_each-append (trace_at 2) definition (call ∷ others) power_on
    ∙ ap (λ items. trace definition power_on ++ items) (trace_each-cons (trace_at 2) call others first)
    ∙ ap (stream_with others) first_items

-- What is seen of items: how many bodies run, what the step took, and what went out in it.
abbrev Seen : Type 0
Seen = ℕ × Last × List Output

abbrev seen_of : List StepResult → List Seen
seen_of items = map (λ (item : StepResult). (item.machine.depth, item.machine.last, item.outputs)) items

-- a command that ran, or was recorded, where so many bodies run, and nothing went out
abbrev ran : ℕ → Token → Seen
ran depth command = (depth, lasts.Ran (kind_of command), [])

abbrev recorded : Token → Seen
recorded command = (0, lasts.Recorded (kind_of command), [])

-- a page with so many black dots in a line from a dot on
abbrev pub dotted : (x y width : ℕ) → Page → Page
dotted x y width page =
    painted page
    (fill_mark Portrait page (record { x = x; y = y; width = width; height = 1 }) solid_black both_transparent)

abbrev pub letter : Page
letter = blank 2550 3300

abbrev pub sheet_of : Page → Output
sheet_of page = Deliver (record { front = page; back = None })

-- The trace with FF and the universal exit. Ten steps of the stream come first, then the call and four of the macro's, and the call in
-- it and four more. Then comes the call that has no effect and ends both, and two steps of the stream.
abbrev pub page_and_exit : List Token
page_and_exit = form_feed ∷ Uel ∷ []

abbrev pub two_dots_sheet : Output
two_dots_sheet = sheet_of (dotted 77 150 1 (dotted 75 150 1 letter))

abbrev calls_seen : List Seen
calls_seen =
    ran 0 (sequence "*" "p" "0" "X")
    ∷ ran 0 (sequence "*" "p" "0" "Y")
    ∷ ran 0 (macro_id "1")
    ∷ ran 0 (macro_control "0")
    ∷ recorded (sequence "*" "c" "1" "A")
    ∷ recorded (sequence "*" "c" "1" "B")
    ∷ recorded (sequence "*" "c" "0" "P")
    ∷ recorded (sequence "*" "p" "+2" "X")
    ∷ recorded call
    ∷ ran 0 (macro_control "1")
    ∷ ran 1 call
    ∷ ran 1 (sequence "*" "c" "1" "A")
    ∷ ran 1 (sequence "*" "c" "1" "B")
    ∷ ran 1 (sequence "*" "c" "0" "P")
    ∷ ran 1 (sequence "*" "p" "+2" "X")
    ∷ ran 2 call
    ∷ ran 2 (sequence "*" "c" "1" "A")
    ∷ ran 2 (sequence "*" "c" "1" "B")
    ∷ ran 2 (sequence "*" "c" "0" "P")
    ∷ ran 2 (sequence "*" "p" "+2" "X")
    ∷ ran 0 call
    ∷ (0, lasts.Ran (kind_of form_feed), two_dots_sheet ∷ [])
    ∷ ran 0 Uel
    ∷ []

computed_calls : seen_of (stream_with page_and_exit called) ≡ calls_seen
unfolding trace_each trace_at trace_in_overlay
computed_calls = refl

the_items_of_the_calls : seen_of (trace (dot_twice page_and_exit) power_on) ≡ calls_seen
the_items_of_the_calls = ap seen_of (items_of page_and_exit) ∙ computed_calls

-- A command of the stream that closes the page, where the overlay's macro is found, gives the items of the overlay's body.
close_with_overlay :
    (command : Token) (commands : List Token) (cause : EjectCause) (before : Machine) (state : State)
    → effect_on (source_at 2) command before.state ≡ Closes cause state
    → overlay_body state ≡ Some commands
    → trace_at 2 command before ≡ begun_items (inside_of (trace_at 1)) (begun_close (Some commands) cause (with_state state (taken sources.Stream command before)))
unfolding trace_at
close_with_overlay command commands cause before state closes found =
    ap (outside_items 1 (taken sources.Stream command before)) closes
    ∙ ap (λ body. begun_items (inside_of (trace_at 1)) (begun_close body cause (with_state state (taken sources.Stream command before)))) found

pub second_macro_is_found : (commands : List Token) → body_of (one_macro 2 commands) 2 ≡ Some commands
second_macro_is_found commands = found-stored maps.empty 2 commands

-- ESC&f2y0X, ESC*c4a1b0P, FF, ESC&f1X, ESC&f4X: a macro with a form feed is laid under every page
abbrev pub four_dots : List Token
four_dots = dots "4" ++ (form_feed ∷ [])

abbrev pub overlaid : List Token
overlaid = (macro_id "2" ∷ macro_control "0" ∷ four_dots) ++ (macro_control "1" ∷ macro_control "4" ∷ [])

abbrev pub with_overlay : Machine
with_overlay = last_machine power_on (trace overlaid power_on)

-- a form feed, with the overlay's items, and what it leaves
abbrev pub fed_items : (before : Machine) → List StepResult
fed_items before = begun_items (inside_of (trace_at 1)) (begun_close (Some four_dots) causes.Feed (with_state before.state (taken sources.Stream form_feed before)))

abbrev fed : Machine → Machine
fed before = last_machine before (fed_items before)

-- A form feed that is not recorded and not skipped closes the page; the cursor stays where line termination says nothing.
pub feed_closes :
    (state : State)
    → is_recorded form_feed state ≡ false
    → is_skipped sources.Stream FormFeed state ≡ false
    → state.environment.settings.line_termination.return_before_feed ≡ false
    → effect_on sources.Stream form_feed state ≡ Closes causes.Feed state
feed_closes state carried_out has_effect stays =
    ap (λ recorded. if recorded then MayAllocate (record_command form_feed state) else row_unless_skipped sources.Stream FormFeed form_feed state)
    carried_out
    ∙ ap (λ skipped. if skipped then Changes state else table_row sources.Stream FormFeed form_feed state) has_effect
    ∙ ap (λ returns. Closes causes.Feed (if returns then to_left_margin state else state)) stays

first_feed_closes : effect_on (source_at 2) form_feed with_overlay.state ≡ Closes causes.Feed with_overlay.state
unfolding trace_each trace_at
first_feed_closes = feed_closes with_overlay.state refl refl refl

first_overlay : overlay_body with_overlay.state ≡ Some four_dots
unfolding trace_each trace_at
first_overlay = second_macro_is_found four_dots

pub first_feed : trace_at 2 form_feed with_overlay ≡ fed_items with_overlay
first_feed = close_with_overlay form_feed four_dots causes.Feed with_overlay with_overlay.state first_feed_closes first_overlay

abbrev second_page : Machine
second_page = fed with_overlay

second_is_carried_out : is_recorded form_feed second_page.state ≡ false
unfolding trace_each trace_at trace_in_overlay
second_is_carried_out = refl

second_has_effect : is_skipped sources.Stream FormFeed second_page.state ≡ false
unfolding trace_each trace_at trace_in_overlay
second_has_effect = refl

second_stays_in_place : second_page.state.environment.settings.line_termination.return_before_feed ≡ false
unfolding trace_each trace_at trace_in_overlay
second_stays_in_place = refl

second_feed_closes : effect_on (source_at 2) form_feed second_page.state ≡ Closes causes.Feed second_page.state
second_feed_closes = feed_closes second_page.state second_is_carried_out second_has_effect second_stays_in_place

second_overlay : overlay_body second_page.state ≡ Some four_dots
unfolding trace_each trace_at trace_in_overlay
second_overlay = second_macro_is_found four_dots

second_feed : trace_at 2 form_feed second_page ≡ fed_items second_page
second_feed = close_with_overlay form_feed four_dots causes.Feed second_page second_page.state second_feed_closes second_overlay

abbrev pub exit : List Token
exit = Uel ∷ []

abbrev two_pages : List StepResult
two_pages = fed_items with_overlay ++ (fed_items second_page ++ trace_each (trace_at 2) exit (fed second_page))

items_of_two_pages : trace (overlaid ++ (form_feed ∷ form_feed ∷ exit)) power_on ≡ trace overlaid power_on ++ two_pages
items_of_two_pages =
    trace_each-append (trace_at 2) overlaid (form_feed ∷ form_feed ∷ exit) power_on
    ∙ ap (λ items. trace overlaid power_on ++ items)
    (trace_each-cons (trace_at 2) form_feed (form_feed ∷ exit) with_overlay
    ∙ ap (λ items. items ++ trace_each (trace_at 2) (form_feed ∷ exit) (last_machine with_overlay items)) first_feed
    ∙ ap (λ items. fed_items with_overlay ++ items)
    (trace_each-cons (trace_at 2) form_feed exit second_page
    ∙ ap (λ items. items ++ trace_each (trace_at 2) exit (last_machine second_page items)) second_feed))

-- All items: the definition and the overlay's start, eight steps; a form feed, which starts the overlay; and of its commands the
-- form feed, which has no effect there, and in whose step the overlay ends and the page closes.
abbrev overlaid_seen : List Seen
overlaid_seen =
    ran 0 (macro_id "2")
    ∷ ran 0 (macro_control "0")
    ∷ recorded (sequence "*" "c" "4" "A")
    ∷ recorded (sequence "*" "c" "1" "B")
    ∷ recorded (sequence "*" "c" "0" "P")
    ∷ recorded form_feed
    ∷ ran 0 (macro_control "1")
    ∷ ran 0 (macro_control "4")
    ∷ []

abbrev close_seen : (closing : Token) → Page → List Seen
close_seen closing page =
    ran 1 closing
    ∷ ran 1 (sequence "*" "c" "4" "A")
    ∷ ran 1 (sequence "*" "c" "1" "B")
    ∷ ran 1 (sequence "*" "c" "0" "P")
    ∷ (0, lasts.Refused (kind_of form_feed) refusals.Overlay, sheet_of page ∷ [])
    ∷ []

abbrev overlay_dots : Page → Page
overlay_dots = dotted 75 187 4

abbrev pages_seen : List Seen
pages_seen =
    overlaid_seen
    ++ (close_seen form_feed (overlay_dots letter) ++ (close_seen form_feed (overlay_dots letter) ++ (ran 0 Uel ∷ [])))

computed_overlay : seen_of (trace overlaid power_on ++ two_pages) ≡ pages_seen
unfolding trace_each trace_at trace_in_overlay
computed_overlay = refl

the_items_under_the_overlay : seen_of (trace (overlaid ++ (form_feed ∷ form_feed ∷ exit)) power_on) ≡ pages_seen
the_items_under_the_overlay = ap seen_of items_of_two_pages ∙ computed_overlay

-- ESC*c1a1b0P, ESC&f3y0X and the end of the stream: the exit drops the open definition before the overlay runs
abbrev pub open_definition : List Token
open_definition = overlaid ++ (dots "1" ++ (macro_id "3" ∷ macro_control "0" ∷ []))

abbrev in_definition : Machine
in_definition = last_machine power_on (trace open_definition power_on)

abbrev dropped : State
dropped = with_macros abandoned (record in_definition.state { hp_gl = false })

abbrev pub exit_closes : EjectCause
exit_closes = causes.Change page_changes.Reset

-- An exit that is not recorded and not skipped, on a page with a mark, closes it.
pub reset_closes :
    (state : State)
    → is_recorded Uel state ≡ false
    → is_skipped sources.Stream Reset state ≡ false
    → is_marked (with_macros abandoned (record state { hp_gl = false })) ≡ true
    → effect_on sources.Stream Uel state ≡ Closes exit_closes (with_macros abandoned (record state { hp_gl = false }))
reset_closes state carried_out has_effect marked =
    let after = with_macros abandoned (record state { hp_gl = false }) in
    ap (λ recorded. if recorded then MayAllocate (record_command Uel state) else row_unless_skipped sources.Stream Reset Uel state)
    carried_out
    ∙ ap (λ skipped. if skipped then Changes state else table_row sources.Stream Reset Uel state) has_effect
    ∙ ap (λ marked. if marked then Closes exit_closes after else Stays exit_closes after) marked

exit_is_carried_out : is_recorded Uel in_definition.state ≡ false
unfolding trace_each trace_at
exit_is_carried_out = refl

exit_has_effect : is_skipped sources.Stream Reset in_definition.state ≡ false
unfolding trace_each trace_at
exit_has_effect = refl

page_is_marked : is_marked dropped ≡ true
unfolding trace_each trace_at
page_is_marked = refl

overlay_under_the_exit : overlay_body dropped ≡ Some four_dots
unfolding trace_each trace_at
overlay_under_the_exit = second_macro_is_found four_dots

abbrev exit_items : List StepResult
exit_items = begun_items (inside_of (trace_at 1)) (begun_close (Some four_dots) exit_closes (with_state dropped (taken sources.Stream Uel in_definition)))

exit_gives : trace_at 2 Uel in_definition ≡ exit_items
exit_gives =
    close_with_overlay Uel four_dots exit_closes in_definition dropped
    (reset_closes in_definition.state exit_is_carried_out exit_has_effect page_is_marked) overlay_under_the_exit

items_with_the_exit : trace (open_definition ++ exit) power_on ≡ trace open_definition power_on ++ exit_items
items_with_the_exit =
    trace_each-append (trace_at 2) open_definition exit power_on
    ∙ ap (λ items. trace open_definition power_on ++ items) (trace_each-one (trace_at 2) Uel in_definition ∙ exit_gives)

-- All items: those of the overlay's start, three commands and an open definition, and the exit, which closes the page under
-- the overlay.
abbrev exit_seen : List Seen
exit_seen =
    overlaid_seen
    ++ (ran 0 (sequence "*" "c" "1" "A")
    ∷ ran 0 (sequence "*" "c" "1" "B")
    ∷ ran 0 (sequence "*" "c" "0" "P")
    ∷ ran 0 (macro_id "3")
    ∷ ran 0 (macro_control "0")
    ∷ close_seen Uel (overlay_dots (dotted 75 187 1 letter)))

computed_exit : seen_of (trace open_definition power_on ++ exit_items) ≡ exit_seen
unfolding trace_each trace_at trace_in_overlay
computed_exit = refl

the_items_of_the_exit : seen_of (trace (open_definition ++ exit) power_on) ≡ exit_seen
the_items_of_the_exit = ap seen_of items_with_the_exit ∙ computed_exit

-- ESC&f1y0X, ESC&f8X, ESC*c1a1b0P, ESC&f1X, ESC&f2X, ESC&f2X, FF: a body that deletes its own macro runs on, and a second execute
-- finds no macro
abbrev pub execute : Token
execute = macro_control "2"

abbrev pub deleting : List Token
deleting = macro_control "8" ∷ dots "1"

abbrev pub deleting_defined : List Token
deleting_defined = (macro_id "1" ∷ macro_control "0" ∷ deleting) ++ (macro_control "1" ∷ [])

-- The macro that was deleted is not found.
pub macro_is_gone : (commands : List Token) → body_of (without (one_macro 1 commands) 1) 1 ≡ None
macro_is_gone commands = grind (gets, rules)

abbrev ready : Machine
ready = last_machine power_on (trace deleting_defined power_on)

abbrev executed_items : List StepResult
executed_items = outside_items 1 (taken sources.Stream execute ready) (Starts deleting ends.Execute ready.state)

abbrev deleted : Machine
deleted = last_machine ready executed_items

execute_starts : effect_on (source_at 2) execute ready.state ≡ Starts deleting ends.Execute ready.state
unfolding trace_each trace_at
execute_starts = ap (λ found. start_body found ends.Execute ready.state) (macro_is_found deleting)

second_changes : effect_on (source_at 2) execute deleted.state ≡ Changes deleted.state
unfolding trace_each trace_at
second_changes = ap (λ found. start_body found ends.Execute deleted.state) (macro_is_gone deleting)

first_execute : trace_at 2 execute ready ≡ executed_items
unfolding trace_at
first_execute = ap (outside_items 1 (taken sources.Stream execute ready)) execute_starts

second_execute : trace_at 2 execute deleted ≡ silent (taken sources.Stream execute deleted) ∷ []
unfolding trace_at
second_execute = ap (outside_items 1 (taken sources.Stream execute deleted)) second_changes

abbrev after_deletion : List StepResult
after_deletion = executed_items ++ (silent (taken sources.Stream execute deleted) ∷ trace_each (trace_at 2) page_and_exit (taken sources.Stream execute deleted))

items_of_deletion : trace (deleting_defined ++ (execute ∷ execute ∷ page_and_exit)) power_on ≡ trace deleting_defined power_on ++ after_deletion
items_of_deletion =
    trace_each-append (trace_at 2) deleting_defined (execute ∷ execute ∷ page_and_exit) power_on
    ∙ ap (λ items. trace deleting_defined power_on ++ items)
    (trace_each-cons (trace_at 2) execute (execute ∷ page_and_exit) ready
    ∙ ap (λ items. items ++ trace_each (trace_at 2) (execute ∷ page_and_exit) (last_machine ready items)) first_execute
    ∙ ap (λ items. executed_items ++ items)
    (trace_each-cons (trace_at 2) execute page_and_exit deleted
    ∙ ap (λ items. items ++ trace_each (trace_at 2) page_and_exit (last_machine deleted items)) second_execute))

-- All items: the definition, the first execute with its body, the second, which has no effect, and the page with the dot.
abbrev deletion_seen : List Seen
deletion_seen =
    ran 0 (macro_id "1")
    ∷ ran 0 (macro_control "0")
    ∷ recorded (macro_control "8")
    ∷ recorded (sequence "*" "c" "1" "A")
    ∷ recorded (sequence "*" "c" "1" "B")
    ∷ recorded (sequence "*" "c" "0" "P")
    ∷ ran 0 (macro_control "1")
    ∷ ran 1 execute
    ∷ ran 1 (macro_control "8")
    ∷ ran 1 (sequence "*" "c" "1" "A")
    ∷ ran 1 (sequence "*" "c" "1" "B")
    ∷ ran 0 (sequence "*" "c" "0" "P")
    ∷ ran 0 execute
    ∷ (0, lasts.Ran (kind_of form_feed), sheet_of (dotted 75 187 1 letter) ∷ [])
    ∷ ran 0 Uel
    ∷ []

computed_deletion : seen_of (trace deleting_defined power_on ++ after_deletion) ≡ deletion_seen
unfolding trace_each trace_at trace_in_overlay
computed_deletion = refl

the_items_of_the_deletion : seen_of (trace (deleting_defined ++ (execute ∷ execute ∷ page_and_exit)) power_on) ≡ deletion_seen
the_items_of_the_deletion = ap seen_of items_of_deletion ∙ computed_deletion
