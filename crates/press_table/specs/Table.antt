-- The command table: what each row does with a command (PCL 5 Printer Language Technical Reference Manual; the rows stand by
-- the letters of their commands in Operation).
use Rattle.std.specs.Prelude.{ℤ, Bool, true, false, ◌&&◌, ◌||◌, not, if◌then◌else◌}
use Rattle.press_units.specs.Measure.{decipoint}
use Rattle.press_units.specs.Value.{tenthousandths_of, whole_part, is_signed}
use Rattle.press_cmd.specs.Token.{Token, field_of, data_of, line_of}
use Rattle.press_cmd.specs.Kinds.{kind_of}
use Rattle.press_page.specs.Environment.{set_unit_of_measure, set_line_termination, set_horizontal_motion, set_vertical_motion}
use Rattle.press_page.specs.Environment.{set_line_spacing, set_text_length, clear_margins, set_copies}
use Rattle.press_raster.specs.Settings.{set_source_width, set_source_height, set_method}
use Rattle.press_table.specs.declared.operation.Operation.{Operation}
use Rattle.press_table.specs.declared.operation.Operation.TheVariants as operations
use Rattle.press_table.specs.declared.effect.Source.{Source}
use Rattle.press_table.specs.declared.state.State.{State}
use Rattle.press_table.specs.Closing.{reset, select_page_size, select_orientation, select_duplex, eject_page, select_page_side}
use Rattle.press_table.specs.Drawing.{set_rectangle_width, set_rectangle_height, set_pattern_id, set_source_transparency, set_pattern_transparency}
use Rattle.press_table.specs.Filling.{fill}
use Rattle.press_table.specs.JobLanguage.{job_language}
use Rattle.press_table.specs.Macros.{set_macro_id, control_macro, is_stop, recording, record_command}
use Rattle.press_table.specs.Motion.{in_overlay, move_along, move_down, move_rows, column, pcl_unit_of, line_feed}
use Rattle.press_table.specs.Motion.{carriage_return, form_feed, half_line_feed, push_or_pop, change_top_margin}
use Rattle.press_table.specs.Motion.{change_perforation_skip, change_left_margin, change_right_margin}
use Rattle.press_table.specs.Operation.{operation_of}
use Rattle.press_table.specs.Patterns.{select_pattern, define_pattern, control_patterns}
use Rattle.press_table.specs.Outcome.{Effect, Changes, MayAllocate, ended_raster, with_drawing, with_environment}
use Rattle.press_table.specs.Raster.{with_raster, set_raster_resolution, while_off, start_raster, end_raster_and_method, offset_raster, transfer}

-- the value of a command, in ten-thousandths; its whole part; and whether a sign stood, which makes a move relative
abbrev pub value_of : Token → ℤ
value_of command = tenthousandths_of (field_of command)

abbrev pub whole_part_of : Token → ℤ
whole_part_of command = whole_part (value_of command)

abbrev pub is_relative : Token → Bool
is_relative command = is_signed (field_of command)

-- ESC%#B and ESC%#A, enter HP-GL/2 mode and enter PCL mode
abbrev pub with_hp_gl : Bool → State → State
with_hp_gl on state = record state { hp_gl = on }

-- What a row does with a command, by where the command comes from.
abbrev pub table_row : Source → Operation → Token → State → Effect
table_row source operations.Nothing command = Changes
table_row source operations.CarriageReturn command = carriage_return source
table_row source operations.LineFeed command = line_feed source
table_row source operations.FormFeed command = form_feed
table_row source operations.HalfLineFeed command = half_line_feed source
table_row source operations.ClearMargins command = λ state. Changes (with_environment clear_margins state)
table_row source operations.Reset command = reset
table_row source operations.EnterHpGl command = λ state. Changes (with_hp_gl true state)
table_row source operations.LeaveHpGl command = λ state. Changes (with_hp_gl false state)
table_row source operations.UnitOfMeasure command = λ state. Changes (with_environment (set_unit_of_measure (value_of command)) state)
table_row source operations.MoveColumns command = λ state. Changes (move_along (column state) (value_of command) (is_relative command) state)
table_row source operations.MoveRows command = λ state. Changes (move_rows (value_of command) (is_relative command) state)
table_row source operations.MoveHorizontally command = λ state. Changes (move_along decipoint (value_of command) (is_relative command) state)
table_row source operations.MoveVertically command = λ state. Changes (move_down decipoint (value_of command) (is_relative command) state)
table_row source operations.SelectPageSide command = select_page_side (whole_part_of command)
table_row source operations.LeftMargin command = λ state. Changes (change_left_margin (value_of command) state)
table_row source operations.RightMargin command = λ state. Changes (change_right_margin (value_of command) state)
table_row source operations.PushOrPop command = λ state. Changes (push_or_pop (whole_part_of command) state)
table_row source operations.LineTermination command = λ state. Changes (with_environment (set_line_termination (value_of command)) state)
table_row source operations.HorizontalMotion command = λ state. Changes (with_environment (set_horizontal_motion (value_of command)) state)
table_row source operations.SelectPageSize command = select_page_size (value_of command)
table_row source operations.VerticalMotion command = λ state. Changes (with_environment (set_vertical_motion (value_of command)) state)
table_row source operations.LineSpacing command = λ state. Changes (with_environment (set_line_spacing (value_of command)) state)
table_row source operations.TopMargin command = λ state. Changes (change_top_margin (value_of command) state)
table_row source operations.TextLength command = λ state. Changes (with_environment (set_text_length (value_of command)) state)
table_row source operations.EjectPage command = eject_page
table_row source operations.PerforationSkip command = λ state. Changes (change_perforation_skip (value_of command) state)
table_row source operations.SelectOrientation command = select_orientation (value_of command)
table_row source operations.SelectDuplex command = select_duplex (value_of command)
table_row source operations.Copies command = λ state. Changes (with_environment (set_copies (value_of command)) state)
table_row source operations.RectangleWidth command = λ state. Changes (with_drawing (set_rectangle_width (value_of command) (pcl_unit_of state)) state)
table_row source operations.RectangleHeight command = λ state. Changes (with_drawing (set_rectangle_height (value_of command) (pcl_unit_of state)) state)
table_row source operations.PatternId command = λ state. Changes (with_drawing (set_pattern_id (whole_part_of command)) state)
table_row source operations.RectangleWidthInDecipoints command = λ state. Changes (with_drawing (set_rectangle_width (value_of command) decipoint) state)
table_row source operations.Fill command = fill (whole_part_of command)
table_row source operations.ControlPatterns command = λ state. Changes (control_patterns (whole_part_of command) state)
table_row source operations.RectangleHeightInDecipoints command = λ state. Changes (with_drawing (set_rectangle_height (value_of command) decipoint) state)
table_row source operations.DefinePattern command = define_pattern (data_of command)
table_row source operations.SourceTransparency command = λ state. Changes (with_drawing (set_source_transparency (whole_part_of command)) state)
table_row source operations.PatternTransparency command = λ state. Changes (with_drawing (set_pattern_transparency (whole_part_of command)) state)
table_row source operations.SelectPattern command = λ state. Changes (select_pattern (whole_part_of command) state)
table_row source operations.RasterResolution command = λ state. Changes (set_raster_resolution (value_of command) state)
table_row source operations.StartRaster command = λ state. Changes (start_raster (whole_part_of command) state)
table_row source operations.EndRaster command = λ state. Changes (ended_raster state)
table_row source operations.EndRasterAndMethod command = λ state. Changes (end_raster_and_method state)
table_row source operations.SourceWidth command = λ state. Changes (while_off (set_source_width (value_of command)) state)
table_row source operations.SourceHeight command = λ state. Changes (while_off (set_source_height (value_of command)) state)
table_row source operations.SetMethod command = λ state. Changes (with_raster (set_method (value_of command)) state)
table_row source operations.TransferRow command = transfer (data_of command)
table_row source operations.OffsetRaster command = λ state. Changes (offset_raster (whole_part_of command) state)
table_row source operations.MoveX command = λ state. Changes (move_along (pcl_unit_of state) (value_of command) (is_relative command) state)
table_row source operations.MoveY command = λ state. Changes (move_down (pcl_unit_of state) (value_of command) (is_relative command) state)
table_row source operations.MacroId command = λ state. Changes (set_macro_id (whole_part_of command) state)
table_row source operations.ControlMacro command = control_macro source (whole_part_of command)
table_row source operations.JobLanguage command = job_language (line_of command)

-- what has effect while HP-GL/2 is on
abbrev pub works_in_hp_gl : Operation → Bool
works_in_hp_gl operations.Reset = true
works_in_hp_gl operations.LeaveHpGl = true
works_in_hp_gl operations.JobLanguage = true
works_in_hp_gl other = false

-- what has effect in an overlay, where no page closes
abbrev pub works_in_overlay : Operation → Bool
works_in_overlay operations.FormFeed = false
works_in_overlay operations.SelectPageSize = false
works_in_overlay operations.SelectOrientation = false
works_in_overlay operations.SelectDuplex = false
works_in_overlay operations.EjectPage = false
works_in_overlay operations.SelectPageSide = false
works_in_overlay other = true

-- what is not recorded while a macro definition is open: the end of the definition, a reset, the universal exit and PJL lines
abbrev pub passes_definition : Operation → (number : ℤ) → Bool
passes_definition operations.ControlMacro number = is_stop number
passes_definition operations.Reset number = true
passes_definition operations.JobLanguage number = true
passes_definition other number = false

-- whether a command is recorded
abbrev pub is_recorded : Token → State → Bool
is_recorded command state =
    recording state && not (passes_definition (operation_of (kind_of command)) (whole_part_of command))

-- whether a command has no effect where it stands
abbrev pub is_skipped : Source → Operation → State → Bool
is_skipped source operation state =
    (state.hp_gl && not (works_in_hp_gl operation)) || (in_overlay source && not (works_in_overlay operation))

-- A row where it has effect.
abbrev pub row_unless_skipped : Source → Operation → Token → State → Effect
row_unless_skipped source operation command state =
    if is_skipped source operation state then Changes state else table_row source operation command state

-- What a command does: it is recorded and does nothing else, or its kind's row gives what it does.
abbrev pub effect_on : Source → Token → State → Effect
effect_on source command state =
    if is_recorded command state then MayAllocate (record_command command state)
    else row_unless_skipped source (operation_of (kind_of command)) command state
