-- Rows that leave the open page as it is.
use Rattle.std.proofs.Common.{◌≡◌, ℕ, ◌+◌, ◌/◌, ◌≤◌, List, Bool, true, false, cond, Option, Some, refl, sym, ap, subst, ◌∙◌, inl, inr, arith}
use Rattle.std.proofs.lemmas.Bool.{true≢false}
use Rattle.std.proofs.lemmas.Option.{same_Some}
use Rattle.std.specs.Prelude.{ℤ, pos, ◌+ℤ◌, is_some, unwrap_or}
use Rattle.press_units.specs.Position.{positions_per_dot}
use Rattle.press_bits.specs.Page.{Page, black_at}
use Rattle.press_canvas.specs.Changes.{AgreeBesideLines}
use Rattle.press_cmd.specs.Token.{Token, data_of}
use Rattle.press_table.specs.Motion.{change_left_margin, change_perforation_skip, change_right_margin, push_or_pop}
use Rattle.press_cmd.specs.Kinds.{kind_of}
use Rattle.press_pattern.specs.declared.pattern.PatternKind.{PatternKind}
use Rattle.press_table.specs.declared.effect.Source.{Source}
use Rattle.press_table.specs.declared.operation.Operation.{Operation}
use Rattle.press_table.specs.declared.operation.Operation.TheVariants as operations
use Rattle.press_table.specs.declared.pattern_control.PatternControl.{PatternControl}
use Rattle.press_table.specs.declared.state.State.{State}
use Rattle.press_table.specs.Outcome.{Effect}
use Rattle.press_table.specs.Macros.{with_macro_id}
use Rattle.press_table.specs.Operation.{operation_of}
use Rattle.press_table.specs.Patterns.{define_pattern, pattern_control_with, select_kind}
use Rattle.press_page.specs.PageSetup.{logical_length}
use Rattle.press_page.specs.declared.environment.PageEnv.{PageEnv}
use Rattle.press_raster.specs.Graphics.{passed, takes_rows}
use Rattle.press_raster.specs.Rows.{drawn_rows}
use Rattle.press_raster.specs.Settings.{items_of}
use Rattle.press_raster.proofs.RowLinesLemmas.{rows_lead}
use Rattle.press_raster.proofs.RowsReadyLemmas.{below_edge}
use Rattle.press_table.specs.Closing.{page_now}
use Rattle.press_table.specs.Place.{blank_page}
use Rattle.press_table.specs.Raster.{brush_now, drawn_now, offset_by, start_at, start_of, start_raster, transfer, transfer_rows, with_rows}
use Rattle.press_table.specs.Table.{value_of, whole_part_of, table_row, effect_on}
use Rattle.press_table.specs.PageKept.{KeepsOtherLines, OtherLinesStay, PageStays, kind_transfers_rows, may_change_page, most_dot_lines, row_line, transfers_rows}

either : (b : Bool) (before s t : State) → s.page ≡ before.page → t.page ≡ before.page → (cond b s t).page ≡ before.page
either b before s t first second = grind arith

control_page : (control : Option PatternControl) (state : State) → (pattern_control_with control state).page ≡ state.page
control_page control state = grind arith

kind_page : (kind : Option PatternKind) (state : State) → (select_kind kind state).page ≡ state.page
kind_page kind state = grind arith

start_page : (left : Option ℕ) (state : State) → (start_at left state).page ≡ state.page
start_page left state = grind arith

offset_page : (rows : Option ℕ) (state : State) → (offset_by rows state).page ≡ state.page
offset_page rows state = grind arith

offset_rows : (on : Bool) (rows : Option ℕ) (state : State) → (cond on (offset_by rows state) state).page ≡ state.page
offset_rows on rows state = either on state (offset_by rows state) state (offset_page rows state) refl

start_rows : (on : Bool) (left : Option ℕ) (state : State) → (cond on state (start_at left state)).page ≡ state.page
start_rows on left state = either on state state (start_at left state) refl (start_page left state)

macro_page : (id : Option ℕ) (state : State) → (with_macro_id id state).page ≡ state.page
macro_page id state = grind arith

left_margin : (value : ℤ) (state : State) → (change_left_margin value state).page ≡ state.page
left_margin value state = grind arith

right_margin : (value : ℤ) (state : State) → (change_right_margin value state).page ≡ state.page
right_margin value state = grind arith

skip_page : (value : ℤ) (state : State) → (change_perforation_skip value state).page ≡ state.page
skip_page value state = grind arith

stack_moves : (number : ℤ) (state : State) → (push_or_pop number state).page ≡ state.page
stack_moves number state = grind arith

defined : (bytes : List ℕ) (state : State) → PageStays state (define_pattern bytes state)
defined bytes state = grind arith

row_stays : (source : Source) (operation : Operation) (command : Token) (state : State) → may_change_page operation ≡ false → PageStays state (table_row source operation command state)
row_stays source operations.Nothing command state keeps = refl
row_stays source operations.CarriageReturn command state keeps = absurd (true≢false keeps)
row_stays source operations.LineFeed command state keeps = absurd (true≢false keeps)
row_stays source operations.FormFeed command state keeps = absurd (true≢false keeps)
row_stays source operations.HalfLineFeed command state keeps = absurd (true≢false keeps)
row_stays source operations.ClearMargins command state keeps = refl
row_stays source operations.Reset command state keeps = absurd (true≢false keeps)
row_stays source operations.EnterHpGl command state keeps = refl
row_stays source operations.LeaveHpGl command state keeps = refl
row_stays source operations.UnitOfMeasure command state keeps = refl
row_stays source operations.MoveColumns command state keeps = refl
row_stays source operations.MoveRows command state keeps = refl
row_stays source operations.MoveHorizontally command state keeps = refl
row_stays source operations.MoveVertically command state keeps = refl
row_stays source operations.SelectPageSide command state keeps = absurd (true≢false keeps)
row_stays source operations.LeftMargin command state keeps = left_margin (value_of command) state
row_stays source operations.RightMargin command state keeps = right_margin (value_of command) state
row_stays source operations.PushOrPop command state keeps = stack_moves (whole_part_of command) state
row_stays source operations.LineTermination command state keeps = refl
row_stays source operations.HorizontalMotion command state keeps = refl
row_stays source operations.SelectPageSize command state keeps = absurd (true≢false keeps)
row_stays source operations.VerticalMotion command state keeps = refl
row_stays source operations.LineSpacing command state keeps = refl
row_stays source operations.TopMargin command state keeps = either _ state _ _ refl refl
row_stays source operations.TextLength command state keeps = refl
row_stays source operations.EjectPage command state keeps = absurd (true≢false keeps)
row_stays source operations.PerforationSkip command state keeps = skip_page (value_of command) state
row_stays source operations.SelectOrientation command state keeps = absurd (true≢false keeps)
row_stays source operations.SelectDuplex command state keeps = absurd (true≢false keeps)
row_stays source operations.Copies command state keeps = refl
row_stays source operations.RectangleWidth command state keeps = refl
row_stays source operations.RectangleHeight command state keeps = refl
row_stays source operations.PatternId command state keeps = refl
row_stays source operations.RectangleWidthInDecipoints command state keeps = refl
row_stays source operations.Fill command state keeps = absurd (true≢false keeps)
row_stays source operations.ControlPatterns command state keeps = control_page _ state
row_stays source operations.RectangleHeightInDecipoints command state keeps = refl
row_stays source operations.DefinePattern command state keeps = defined (data_of command) state
row_stays source operations.SourceTransparency command state keeps = refl
row_stays source operations.PatternTransparency command state keeps = refl
row_stays source operations.SelectPattern command state keeps = kind_page _ state
row_stays source operations.RasterResolution command state keeps = either _ state _ _ refl refl
row_stays source operations.StartRaster command state keeps = start_rows _ _ state
row_stays source operations.EndRaster command state keeps = refl
row_stays source operations.EndRasterAndMethod command state keeps = refl
row_stays source operations.SourceWidth command state keeps = either _ state _ _ refl refl
row_stays source operations.SourceHeight command state keeps = either _ state _ _ refl refl
row_stays source operations.SetMethod command state keeps = refl
row_stays source operations.TransferRow command state keeps = absurd (true≢false keeps)
row_stays source operations.OffsetRaster command state keeps = offset_rows _ _ state
row_stays source operations.MoveX command state keeps = refl
row_stays source operations.MoveY command state keeps = refl
row_stays source operations.MacroId command state keeps = macro_page _ state
row_stays source operations.ControlMacro command state keeps = absurd (true≢false keeps)
row_stays source operations.JobLanguage command state keeps = absurd (true≢false keeps)

pub row_keeps_the_page : (source : Source) (command : Token) (state : State) → may_change_page (operation_of (kind_of command)) ≡ false → PageStays state (effect_on source command state)
row_keeps_the_page source command state keeps = grind (arith, row_stays)

-- ---- rows that are transferred

-- where a line of a row is, the row begins on it
row_line_is : (environment : PageEnv) (y : ℤ) (n : ℕ) → row_line environment y ≡ Some n →
    (below_edge (y +ℤ pos environment.margins.top) ≤ logical_length environment.page_setup)
    × (n ≡ below_edge (y +ℤ pos environment.margins.top) / positions_per_dot environment.page_setup.resolution)
row_line_is environment y n is = grind arith

-- rows that are transferred
rows_keep : (bytes : List ℕ) (state : State) → KeepsOtherLines state (with_rows bytes state)
rows_keep bytes state first last before next first_is last_is before_is next_is =
    let environment = state.environment in
    let orientation = environment.page_setup.orientation in
    let settings = state.drawing.raster in
    let after = drawn_rows environment settings (brush_now state) bytes (drawn_now state) in
    let one = row_line_is environment state.cursor.y first first_is in
    let two = row_line_is environment after.cursor.y last last_is in
    let leads = rows_lead environment settings (brush_now state) (items_of settings.coding bytes) (drawn_now state) one.0 in
    let old : page_now state ≡ before = ap (λ (page : Option Page). unwrap_or page (blank_page environment.page_setup)) before_is in
    let new : after.page ≡ next = same_Some after.page next next_is in
    subst (λ (page : Page). AgreeBesideLines orientation first (last + most_dot_lines) page next) old
    (subst (AgreeBesideLines orientation first (last + most_dot_lines) (page_now state)) new
    (λ x y wide high out. leads.beside x y wide high (elim out [
      | inl above ↦ inl (omega (arith, above, one.1))
      | inr below ↦ inr (omega (arith, below, two.1))
    ])))

page_stays : (before after : State) → after.page ≡ before.page → KeepsOtherLines before after
page_stays before after same first last page next first_is last_is page_is next_is =
    let one : next ≡ page = same_Some next page (sym next_is ∙ same ∙ page_is) in
    λ x y wide high out. ap (λ (p : Page). black_at p x y) one

lines_either : (b : Bool) (before : State) (e f : Effect) → OtherLinesStay before e → OtherLinesStay before f → OtherLinesStay before (cond b e f)
lines_either b before e f first second = grind arith

-- where raster graphics starts, the page, the line of the cursor and the environment stay
started_keeps : (on : Bool) (left : Option ℕ) (state : State) → let now : State = cond on state (start_at left state) in
    (now.page ≡ state.page) × (now.cursor.y ≡ state.cursor.y) × (now.environment ≡ state.environment)
started_keeps on left state = grind arith

transferred_keeps : (bytes : List ℕ) (before state : State) → state.page ≡ before.page → state.cursor.y ≡ before.cursor.y → state.environment ≡ before.environment →
    OtherLinesStay before (transfer_rows bytes state)
transferred_keeps bytes before state page y environment =
    lines_either (takes_rows state.drawing.raster bytes state.graphics) before _ _
    (λ first last old next first_is last_is old_is next_is.
    subst (λ (one : PageEnv). AgreeBesideLines one.page_setup.orientation first (last + most_dot_lines) old next) environment
    (rows_keep bytes state first last old next ((λ i. row_line (environment i) (y i)) ∙ first_is) last_is (page ∙ old_is) next_is))
    (page_stays before (record state { graphics = passed state.drawing.raster bytes state.graphics }) page)

transfer_keeps : (bytes : List ℕ) (state : State) → OtherLinesStay state (transfer bytes state)
transfer_keeps bytes state =
    let start = started_keeps (is_some state.graphics) (start_of (pos 0) state.cursor.x) state in
    transferred_keeps bytes state (start_raster (pos 0) state) start.0 start.1 start.2

rows_stay : (source : Source) (operation : Operation) (command : Token) (state : State) → transfers_rows operation ≡ true → OtherLinesStay state (table_row source operation command state)
rows_stay source operation command state is = grind (arith, transfer_keeps)

pub row_keeps_other_lines : (source : Source) (command : Token) (state : State) → kind_transfers_rows (kind_of command) ≡ true → OtherLinesStay state (effect_on source command state)
row_keeps_other_lines source command state rows = grind (arith, rows_stay)
