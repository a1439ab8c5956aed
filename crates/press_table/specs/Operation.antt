-- The command table: which command has which row. Each row stands on a line, by the letters of its command
-- (PCL 5 Printer Language Technical Reference Manual, the commands by their sequences).
use Prim.Native.Char.{code}
use Rattle.std.specs.Prelude.{ℕ, ◌==◌, ◌&&◌, List, [], ◌∷◌, Option, Some, None, if◌then◌else◌}
use Rattle.press_cmd.specs.declared.variant.Kind.{Kind}
use Rattle.press_cmd.specs.declared.variant.Kind.TheVariants as kinds
use Rattle.press_table.specs.declared.operation.Operation.{Operation}
use Rattle.press_table.specs.declared.operation.Operation.TheVariants as operations

-- the row beside a byte; a command without a row has no effect
abbrev pub row_at : ℕ → List (ℕ × Operation) → Operation
row_at byte [] = operations.Nothing
row_at byte (row ∷ rows) = if byte == row.0 then row.1 else row_at byte rows

-- control codes
abbrev pub control_rows : List (ℕ × Operation)
control_rows =
    (code "\n", operations.LineFeed)
    ∷ (code "\u{c}", operations.FormFeed)
    ∷ (code "\r", operations.CarriageReturn)
    ∷ []

-- two-character escape sequences: ESC and one byte
abbrev pub escape_rows : List (ℕ × Operation)
escape_rows =
    (code "=", operations.HalfLineFeed)
    ∷ (code "9", operations.ClearMargins)
    ∷ (code "E", operations.Reset)
    ∷ []

-- ESC%#, by the termination character
abbrev pub percent_rows : List (ℕ × Operation)
percent_rows =
    (code "A", operations.LeaveHpGl)
    ∷ (code "B", operations.EnterHpGl)
    ∷ []

-- ESC&a#
abbrev pub and_a_rows : List (ℕ × Operation)
and_a_rows =
    (code "C", operations.MoveColumns)
    ∷ (code "G", operations.SelectPageSide)
    ∷ (code "H", operations.MoveHorizontally)
    ∷ (code "L", operations.LeftMargin)
    ∷ (code "M", operations.RightMargin)
    ∷ (code "R", operations.MoveRows)
    ∷ (code "V", operations.MoveVertically)
    ∷ []

-- ESC&f#
abbrev pub and_f_rows : List (ℕ × Operation)
and_f_rows =
    (code "S", operations.PushOrPop)
    ∷ (code "X", operations.ControlMacro)
    ∷ (code "Y", operations.MacroId)
    ∷ []

-- ESC&k#
abbrev pub and_k_rows : List (ℕ × Operation)
and_k_rows =
    (code "G", operations.LineTermination)
    ∷ (code "H", operations.HorizontalMotion)
    ∷ []

-- ESC&l#
abbrev pub and_l_rows : List (ℕ × Operation)
and_l_rows =
    (code "A", operations.SelectPageSize)
    ∷ (code "C", operations.VerticalMotion)
    ∷ (code "D", operations.LineSpacing)
    ∷ (code "E", operations.TopMargin)
    ∷ (code "F", operations.TextLength)
    ∷ (code "H", operations.EjectPage)
    ∷ (code "L", operations.PerforationSkip)
    ∷ (code "O", operations.SelectOrientation)
    ∷ (code "S", operations.SelectDuplex)
    ∷ (code "X", operations.Copies)
    ∷ []

-- ESC&u#
abbrev pub and_u_rows : List (ℕ × Operation)
and_u_rows =
    (code "D", operations.UnitOfMeasure)
    ∷ []

-- ESC*b#
abbrev pub star_b_rows : List (ℕ × Operation)
star_b_rows =
    (code "M", operations.SetMethod)
    ∷ (code "W", operations.TransferRow)
    ∷ (code "Y", operations.OffsetRaster)
    ∷ []

-- ESC*c#
abbrev pub star_c_rows : List (ℕ × Operation)
star_c_rows =
    (code "A", operations.RectangleWidth)
    ∷ (code "B", operations.RectangleHeight)
    ∷ (code "G", operations.PatternId)
    ∷ (code "H", operations.RectangleWidthInDecipoints)
    ∷ (code "P", operations.Fill)
    ∷ (code "Q", operations.ControlPatterns)
    ∷ (code "V", operations.RectangleHeightInDecipoints)
    ∷ (code "W", operations.DefinePattern)
    ∷ []

-- ESC*p#
abbrev pub star_p_rows : List (ℕ × Operation)
star_p_rows =
    (code "X", operations.MoveX)
    ∷ (code "Y", operations.MoveY)
    ∷ []

-- ESC*r#
abbrev pub star_r_rows : List (ℕ × Operation)
star_r_rows =
    (code "A", operations.StartRaster)
    ∷ (code "B", operations.EndRaster)
    ∷ (code "C", operations.EndRasterAndMethod)
    ∷ (code "S", operations.SourceWidth)
    ∷ (code "T", operations.SourceHeight)
    ∷ []

-- ESC*t#
abbrev pub star_t_rows : List (ℕ × Operation)
star_t_rows =
    (code "R", operations.RasterResolution)
    ∷ []

-- ESC*v#
abbrev pub star_v_rows : List (ℕ × Operation)
star_v_rows =
    (code "N", operations.SourceTransparency)
    ∷ (code "O", operations.PatternTransparency)
    ∷ (code "T", operations.SelectPattern)
    ∷ []

-- the rows beside a parameterized character and a group character
abbrev pub group_rows : List ((ℕ × ℕ) × List (ℕ × Operation))
group_rows =
    ((code "&", code "a"), and_a_rows)
    ∷ ((code "&", code "f"), and_f_rows)
    ∷ ((code "&", code "k"), and_k_rows)
    ∷ ((code "&", code "l"), and_l_rows)
    ∷ ((code "&", code "u"), and_u_rows)
    ∷ ((code "*", code "b"), star_b_rows)
    ∷ ((code "*", code "c"), star_c_rows)
    ∷ ((code "*", code "p"), star_p_rows)
    ∷ ((code "*", code "r"), star_r_rows)
    ∷ ((code "*", code "t"), star_t_rows)
    ∷ ((code "*", code "v"), star_v_rows)
    ∷ []

abbrev pub rows_at : (character group : ℕ) → List ((ℕ × ℕ) × List (ℕ × Operation)) → List (ℕ × Operation)
rows_at character group [] = []
rows_at character group (rows ∷ others) =
    if character == rows.0.0 && group == rows.0.1 then rows.1 else rows_at character group others

-- the sequences of a parameterized character, a group character and a termination character
abbrev pub grouped_operation : (character group end : ℕ) → Operation
grouped_operation character group end = row_at end (rows_at character group group_rows)

-- those of a parameterized character and a termination character
abbrev pub parameter_operation : (character : ℕ) → (group : Option ℕ) → (end : ℕ) → Operation
parameter_operation character None end = if character == code "%" then row_at end percent_rows else operations.Nothing
parameter_operation character (Some group) end = grouped_operation character group end

-- The row of a kind.
abbrev pub operation_of : Kind → Operation
operation_of (kinds.Escape byte) = row_at byte escape_rows
operation_of kinds.Uel = operations.Reset
operation_of (kinds.Control byte) = row_at byte control_rows
operation_of (kinds.Param character group end) = parameter_operation character group end
operation_of (kinds.Text byte) = operations.Nothing
operation_of kinds.Broken = operations.Nothing
operation_of kinds.PjlLine = operations.JobLanguage
operation_of (kinds.Foreign byte) = operations.Nothing
