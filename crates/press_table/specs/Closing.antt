-- Rows that close the page (PCL 5 Printer Language Technical Reference Manual, Page Control Commands). A page that closes is
-- a side of a sheet: in simplex a sheet without back; in duplex it waits for its back, or is the back of the front that
-- waits. A finished sheet goes out in the copies of now.
use Rattle.std.specs.Prelude.{ℕ, ℤ, ◌&&◌, not, false, is_some, unwrap_or, if◌then◌else◌, [], ◌∷◌, Option, Some, None, option_map, Bool, true}
use Rattle.press_bits.specs.Page.{Page}
use Rattle.press_page.specs.Environment.{asked_page_size, with_page_size, asked_orientation, with_orientation, asked_duplex, with_duplex_mode}
use Rattle.press_page.specs.Numbers.{named}
use Rattle.press_pjl.specs.declared.environment.PjlEnv.{PjlEnv}
use Rattle.press_sink.specs.Sending.{Reply}
use Rattle.press_bits.specs.PrintedSheet as sheets
use Rattle.press_table.specs.declared.effect.EjectCause.{EjectCause}
use Rattle.press_table.specs.declared.effect.EjectCause.TheVariants as causes
use Rattle.press_table.specs.declared.effect.PageChange.{PageChange}
use Rattle.press_table.specs.declared.effect.PageChange.TheVariants as page_changes
use Rattle.press_table.specs.declared.effect.Selection.{Selection}
use Rattle.press_table.specs.declared.effect.Selection.TheVariants.{NextSide, Front, Back}
use Rattle.press_table.specs.declared.state.State.{State}
use Rattle.press_table.specs.Motion.{to_first_line, to_home}
use Rattle.press_macros.specs.Macros.{abandoned}
use Rattle.press_table.specs.Counts.{counted}
use Rattle.press_table.specs.Outcome.{Outcome, done, after_outputs, Effect, Changes, MayAllocate, GivesReply, Stays, Closes, Starts}
use Rattle.press_table.specs.Outcome.{reset_fields, ended_raster, is_marked, with_environment, with_macros}
use Rattle.press_table.specs.Outputs.{copies_out}
use Rattle.press_table.specs.Place.{blank_page}

-- the page as it is: blank where no mark was made
abbrev pub page_now : State → Page
page_now state = unwrap_or state.page (blank_page state.environment.page_setup)

-- the count from which the replies after sheets go on, while the status switch is on
abbrev pub status_count : State → Option ℕ
status_count state = if state.language.page_status then Some state.since_job else None

-- the state after so many sheets more
abbrev pub with_sheets : (copies : ℕ) → State → State
with_sheets copies state = record state {
  sheets = counted state.sheets copies;
  since_job = counted state.since_job copies;
}

-- A finished sheet goes out in the copies of now, each followed by its reply, and is counted in each.
abbrev pub finish_sheet : sheets.PrintedSheet → State → Outcome
finish_sheet sheet state =
    let copies = state.environment.settings.copies in
    record { state = with_sheets copies state; outputs = copies_out sheet copies (status_count state) }

-- A side of a sheet in duplex: the front of the next sheet, which waits, or the back of the front that waits.
abbrev pub close_duplex : Option Page → Page → State → Outcome
close_duplex None page state = done (record state { pending = Some page })
close_duplex (Some front) page state =
    finish_sheet (record { front = front; back = Some page }) (record state { pending = None })

-- A page closes, and raster graphics ends; the next page is blank and has no mark.
abbrev pub close_page : State → Outcome
close_page state =
    let next = record (ended_raster state) { page = None } in
    if state.environment.page_setup.duplex then close_duplex state.pending (page_now state) next
    else finish_sheet (record { front = page_now state; back = None }) next

-- A front that waits for its back goes out alone.
abbrev pub alone : Option Page → State → Outcome
alone None state = done state
alone (Some front) state = finish_sheet (record { front = front; back = None }) (record state { pending = None })

abbrev pub front_alone : State → Outcome
front_alone state = alone state.pending state

-- an outcome whose state is changed then
abbrev pub then_change : (State → State) → Outcome → Outcome
then_change change outcome = record outcome { state = change outcome.state }

-- ESC&a#G, duplex page side selection
abbrev pub selection_of : ℤ → Option Selection
selection_of = named ((0, NextSide) ∷ (1, Front) ∷ (2, Back) ∷ [])

-- the front of the next sheet is blank, where one can wait and none does
abbrev pub blank_front : State → State
blank_front state =
    if state.environment.page_setup.duplex && not (is_some state.pending)
    then record state { pending = Some (blank_page state.environment.page_setup) } else state

-- The side that is selected comes next: a front that waits goes out alone, or a blank front waits for the back.
abbrev pub turn_to : Selection → State → Outcome
turn_to NextSide state = done state
turn_to Front state = front_alone state
turn_to Back state = done (blank_front state)

-- the overlay off
abbrev pub overlay_off : State → State
overlay_off state = record state { overlay = None }

-- The job language's environment, and where a job begins, no sheet since then.
abbrev pub with_language : PjlEnv → (begins_job : Bool) → State → State
with_language language begins_job state =
    record state { language = language; since_job = if begins_job then 0 else state.since_job }

-- A change of the page: where another size or other sides come, and at a reset, a front that waits goes out alone before.
-- Where the job language's current values change, a reset by the new values comes after that.
abbrev pub change_page : PageChange → State → Outcome
change_page page_changes.Reset state = then_change reset_fields (front_alone state)
change_page (page_changes.Language language begins_job) state =
    then_change (λ after. reset_fields (with_language language begins_job after)) (front_alone state)
change_page (page_changes.Size size) state =
    then_change (λ after. to_home (overlay_off (with_environment (with_page_size size) after))) (front_alone state)
change_page (page_changes.Orientation orientation) state =
    done (to_home (overlay_off (with_environment (with_orientation orientation) state)))
change_page (page_changes.Duplex sides) state =
    then_change (λ after. to_home (with_environment (with_duplex_mode sides) after)) (front_alone state)

-- the cursor on the first line after a close
abbrev pub fed : (closed : Bool) → State → State
fed closed state = if closed then to_first_line state else state

-- What a command that closes the page does after the close, or in its place where the page has no mark.
abbrev pub after_close : (closed : Bool) → EjectCause → State → Outcome
after_close closed causes.Feed state = done (fed closed state)
after_close closed (causes.Side selection) state = turn_to selection (fed closed state)
after_close closed (causes.Change change) state = change_page change state

-- What a row leaves where no body runs: where it closes the page, the close and then what the closing command does after it.
abbrev pub finish_effect : Effect → Outcome
finish_effect (Changes state) = done state
finish_effect (MayAllocate state) = done state
finish_effect (GivesReply reply state) = record { state = state; outputs = Reply reply ∷ [] }
finish_effect (Stays cause state) = after_close false cause state
finish_effect (Closes cause state) = after_outputs (close_page state).outputs (after_close true cause (close_page state).state)
finish_effect (Starts commands end state) = done state

-- A page with a mark closes.
abbrev pub close_if_marked : EjectCause → State → Effect
close_if_marked cause state = if is_marked state then Closes cause state else Stays cause state

-- A reset, with what comes of it: HP-GL/2 is off first, and an open macro definition is dropped.
abbrev pub reset_by : PageChange → State → Effect
reset_by change state =
    close_if_marked (causes.Change change) (with_macros abandoned (record state { hp_gl = false }))

-- ESC E, printer reset, and the universal exit
abbrev pub reset : State → Effect
reset = reset_by page_changes.Reset

-- where a command is asked for by its value, a page with a mark closes
abbrev pub close_if_asked : Option EjectCause → State → Effect
close_if_asked None state = Changes state
close_if_asked (Some cause) state = close_if_marked cause state

-- ESC&l#A, page size; ESC&l#O, logical page orientation; ESC&l#S, simplex/duplex print: a change where a value asks for one,
-- which is where the page environment says that the page closes
abbrev pub select_page_size : (value : ℤ) → State → Effect
select_page_size value =
    close_if_asked (option_map (λ size. causes.Change (page_changes.Size size)) (asked_page_size value))

abbrev pub select_orientation : (value : ℤ) → State → Effect
select_orientation value =
    close_if_asked
    (option_map (λ orientation. causes.Change (page_changes.Orientation orientation)) (asked_orientation value))

abbrev pub select_duplex : (value : ℤ) → State → Effect
select_duplex value =
    close_if_asked (option_map (λ sides. causes.Change (page_changes.Duplex sides)) (asked_duplex value))

-- ESC&l#H, paper source (this profile: for every value, a page with a mark is ejected)
abbrev pub eject_page : State → Effect
eject_page = close_if_marked causes.Feed

-- ESC&a#G: a page without a mark stays, and so does the cursor
abbrev pub select_page_side : (number : ℤ) → State → Effect
select_page_side number = close_if_asked (option_map causes.Side (selection_of number))
