-- Which commands may change the open page, and which of its lines.
use Rattle.std.specs.Prelude.{◌≡◌, ◌+◌, ℕ, ℤ, pos, ◌+ℤ◌, int_le, Bool, true, false, if◌then◌else◌, Option, Some, None}
use Rattle.press_bits.specs.Page.{Page}
use Rattle.press_canvas.specs.Changes.{AgreeBesideLines}
use Rattle.press_cmd.specs.declared.variant.Kind.{Kind}
use Rattle.press_page.specs.PageSetup.{logical_length}
use Rattle.press_page.specs.Place.{cursor_dot, lines_below}
use Rattle.press_page.specs.declared.environment.PageEnv.{PageEnv}
use Rattle.press_table.specs.declared.operation.Operation.{Operation}
use Rattle.press_table.specs.declared.operation.Operation.TheVariants as operations
use Rattle.press_table.specs.declared.state.State.{State}
use Rattle.press_table.specs.Operation.{operation_of}
use Rattle.press_table.specs.Outcome.{Effect, Changes, MayAllocate, GivesReply, Stays, Closes, Starts}

-- whether the row of an operation can mark the page, close it, or start a body
abbrev pub may_change_page : Operation → Bool
may_change_page operations.CarriageReturn = true
may_change_page operations.LineFeed = true
may_change_page operations.FormFeed = true
may_change_page operations.HalfLineFeed = true
may_change_page operations.Reset = true
may_change_page operations.SelectPageSide = true
may_change_page operations.SelectPageSize = true
may_change_page operations.EjectPage = true
may_change_page operations.SelectOrientation = true
may_change_page operations.SelectDuplex = true
may_change_page operations.Fill = true
may_change_page operations.TransferRow = true
may_change_page operations.ControlMacro = true
may_change_page operations.JobLanguage = true
may_change_page other = false

-- nothing goes out, no body starts, and the page is the one before
abbrev pub PageStays : State → Effect → Type 0
PageStays before (Changes state) = state.page ≡ before.page
PageStays before (MayAllocate state) = state.page ≡ before.page
PageStays before (GivesReply reply state) = ⊥
PageStays before (Stays cause state) = ⊥
PageStays before (Closes cause state) = ⊥
PageStays before (Starts commands end state) = ⊥

-- whether the commands of a kind can
abbrev pub kind_may_change_page : Kind → Bool
kind_may_change_page kind = may_change_page (operation_of kind)

-- whether it transfers rows of raster graphics
abbrev pub transfers_rows : Operation → Bool
transfers_rows operations.TransferRow = true
transfers_rows other = false

-- whether the commands of a kind do
abbrev pub kind_transfers_rows : Kind → Bool
kind_transfers_rows kind = transfers_rows (operation_of kind)

-- how many lines of a page a dot of a row is high at most: one of 75 dots per inch on a page of 600
abbrev pub most_dot_lines : ℕ
most_dot_lines = 8

-- The line of the frame on which a row begins at this y, if it begins no lower than the logical page ends.
abbrev pub row_line : PageEnv → (y : ℤ) → Option ℕ
row_line environment y =
    let setup = environment.page_setup in
    let top = environment.margins.top in
    if int_le (y +ℤ pos top) (pos (logical_length setup))
    then Some (lines_below (cursor_dot setup top (record { x = 0; y = y })).y 0).first
    else None

-- A page agrees where the lines of its frame stand above that of the cursor before, and from as many lines below that of the cursor behind on as a dot
-- of a row is high at most, where neither stands below the logical page.
abbrev pub KeepsOtherLines : State → State → Type 0
KeepsOtherLines before after = (first last : ℕ) → (page next : Page)
    → row_line before.environment before.cursor.y ≡ Some first → row_line after.environment after.cursor.y ≡ Some last
    → before.page ≡ Some page → after.page ≡ Some next → AgreeBesideLines before.environment.page_setup.orientation first (last + most_dot_lines) page next

-- nothing goes out, no body starts, and the other lines of the page are those before
abbrev pub OtherLinesStay : State → Effect → Type 0
OtherLinesStay before (Changes state) = KeepsOtherLines before state
OtherLinesStay before (MayAllocate state) = KeepsOtherLines before state
OtherLinesStay before (GivesReply reply state) = ⊥
OtherLinesStay before (Stays cause state) = ⊥
OtherLinesStay before (Closes cause state) = ⊥
OtherLinesStay before (Starts commands end state) = ⊥
