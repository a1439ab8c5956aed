-- Why a command is refused: HP-GL/2 is on, or an overlay runs, which skips it; it has no row; or its row does not name its value. A
-- command that is not refused may have no effect, too: while raster graphics is on, or without a macro or a pattern (PCL 5 Printer
-- Language Technical Reference Manual, the commands by their sequences, and Macros).
use Rattle.std.specs.Prelude.{◌≡◌, ℤ, pos, negsuc, Bool, true, false, ◌&&◌, ◌||◌, not, is_some, if◌then◌else◌, Option, Some, None}
use Rattle.std.specs.Ordering.{int_eq}
use Rattle.press_units.specs.Value.{whole_part}
use Rattle.press_cmd.specs.Token.{Token}
use Rattle.press_cmd.specs.Kinds.{kind_of}
use Rattle.press_page.specs.Environment.{asked_top, asked_text_length, asked_left, asked_right, asked_page_size, asked_orientation, asked_duplex}
use Rattle.press_page.specs.Numbers.{within}
use Rattle.press_page.specs.Settings.{measure_of, line_termination_of, horizontal_motion_of, vertical_motion_of, line_spacing_of, copies_of}
use Rattle.press_page.specs.declared.environment.PageEnv.{PageEnv}
use Rattle.press_raster.specs.Settings.{resolution_of, side_of, coding_of}
use Rattle.press_table.specs.declared.effect.Source.{Source}
use Rattle.press_table.specs.declared.operation.Operation.{Operation}
use Rattle.press_table.specs.declared.operation.Operation.TheVariants as operations
use Rattle.press_table.specs.declared.refusal.Refusal.{Refusal}
use Rattle.press_table.specs.declared.refusal.Refusal.TheVariants as refusals
use Rattle.press_table.specs.declared.state.State.{State}
use Rattle.press_table.specs.Closing.{selection_of}
use Rattle.press_table.specs.Drawing.{greatest_pattern_id, is_opaque}
use Rattle.press_table.specs.Macros.{greatest_macro_id, control_of}
use Rattle.press_table.specs.Motion.{in_overlay}
use Rattle.press_table.specs.Operation.{operation_of}
use Rattle.press_table.specs.Outcome.{Changes}
use Rattle.press_table.specs.Patterns.{kind_of_number, pattern_control_of}
use Rattle.press_table.specs.Raster.{start_of, asked_offset}
use Rattle.press_table.specs.Table.{effect_on, is_recorded, value_of, works_in_hp_gl, works_in_overlay}

-- whether a number is 0 or 1
abbrev pub is_switch : ℤ → Bool
is_switch number = int_eq number (pos 0) || int_eq number (pos 1)

-- whether a value is not negative
abbrev pub is_size : ℤ → Bool
is_size (pos n) = true
is_size (negsuc n) = false

-- whether a fill names a pattern by a number: 5 is the current one
abbrev pub fills_by : ℤ → Bool
fills_by number = int_eq number (pos 5) || is_some (kind_of_number number)

-- whether a row that sets margins, text length, page size, orientation or sides names a value
abbrev pub names_setting : Operation → ℤ → PageEnv → Bool
names_setting operations.LeftMargin value environment = is_some (asked_left value environment)
names_setting operations.RightMargin value environment = is_some (asked_right value environment)
names_setting operations.TopMargin value environment = is_some (asked_top value environment)
names_setting operations.TextLength value environment = is_some (asked_text_length value environment)
names_setting operations.SelectPageSize value environment = is_some (asked_page_size value)
names_setting operations.SelectOrientation value environment = is_some (asked_orientation value)
names_setting operations.SelectDuplex value environment = is_some (asked_duplex value)
names_setting other value environment = true

-- Whether a row names a value, in ten-thousandths, with page, margins and motion indices as they are. A row without a line here or above
-- takes any value.
abbrev pub names_value : Operation → ℤ → PageEnv → Bool
names_value operations.UnitOfMeasure value environment = is_some (measure_of (whole_part value))
names_value operations.SelectPageSide value environment = is_some (selection_of (whole_part value))
names_value operations.PushOrPop value environment = is_switch (whole_part value)
names_value operations.LineTermination value environment = is_some (line_termination_of (whole_part value))
names_value operations.HorizontalMotion value environment = is_some (horizontal_motion_of value)
names_value operations.VerticalMotion value environment = is_some (vertical_motion_of value)
names_value operations.LineSpacing value environment = is_some (line_spacing_of (whole_part value))
names_value operations.PerforationSkip value environment = is_switch (whole_part value)
names_value operations.Copies value environment = is_some (copies_of (whole_part value))
names_value operations.RectangleWidth value environment = is_size value
names_value operations.RectangleHeight value environment = is_size value
names_value operations.PatternId value environment = is_some (within greatest_pattern_id (whole_part value))
names_value operations.RectangleWidthInDecipoints value environment = is_size value
names_value operations.Fill value environment = fills_by (whole_part value)
names_value operations.ControlPatterns value environment = is_some (pattern_control_of (whole_part value))
names_value operations.RectangleHeightInDecipoints value environment = is_size value
names_value operations.SourceTransparency value environment = is_some (is_opaque (whole_part value))
names_value operations.PatternTransparency value environment = is_some (is_opaque (whole_part value))
names_value operations.SelectPattern value environment = is_some (kind_of_number (whole_part value))
names_value operations.RasterResolution value environment = is_some (resolution_of environment.page_setup.resolution (whole_part value))
names_value operations.StartRaster value environment = is_some (start_of (whole_part value) 0)
names_value operations.SourceWidth value environment = is_some (side_of (whole_part value))
names_value operations.SourceHeight value environment = is_some (side_of (whole_part value))
names_value operations.SetMethod value environment = is_some (coding_of (whole_part value))
names_value operations.OffsetRaster value environment = is_some (asked_offset (whole_part value))
names_value operations.MacroId value environment = is_some (within greatest_macro_id (whole_part value))
names_value operations.ControlMacro value environment = is_some (control_of (whole_part value))
names_value other value environment = names_setting other value environment

-- whether there is a row
abbrev pub has_row : Operation → Bool
has_row operations.Nothing = false
has_row other = true

-- There is no row for a command; or its row does not name its value.
abbrev pub row_refusal : Operation → ℤ → PageEnv → Option Refusal
row_refusal operation value environment =
    if not (has_row operation) then Some refusals.NoRow
    else if names_value operation value environment then None
    else Some refusals.NoSuchValue

-- The first of these that applies: HP-GL/2 is on, and skips the command; an overlay does, in which no page closes; or its row refuses it.
abbrev pub refusal_by : Source → Operation → ℤ → State → Option Refusal
refusal_by source operation value state =
    if state.hp_gl && not (works_in_hp_gl operation) then Some refusals.HpGl
    else if in_overlay source && not (works_in_overlay operation) then Some refusals.Overlay
    else row_refusal operation value state.environment

-- Why a command that is not recorded, and comes from there, is refused in a state, if it is.
abbrev pub refusal_of : Source → Token → State → Option Refusal
refusal_of source command state = refusal_by source (operation_of (kind_of command)) (value_of command) state

-- why a command is refused that is passed over: HP-GL/2 where it is on, else that it has no row
abbrev pub skipped_by : State → Refusal
skipped_by state = if state.hp_gl then refusals.HpGl else refusals.NoRow

-- A command that is not recorded, and refused in a state for some reason, changes nothing.
abbrev pub NothingIfRefused : Option Refusal → Source → Token → State → Type 0
NothingIfRefused refusal source command state =
    is_some refusal ≡ true → is_recorded command state ≡ false → effect_on source command state ≡ Changes state
