-- Kinds of commands as lines of assembly text, without fields and data.
use Rattle.std.specs.Prelude.{ℕ, List, [], ◌∷◌, ◌++◌, codes, Option, Some, None, option_and_then}
use Rattle.hex.specs.Hex.{encode_upper}
use Rattle.press_cmd.specs.declared.variant.Kind.{Kind}
use Rattle.press_cmd.specs.declared.variant.Kind.TheVariants as kinds
use Rattle.press_asm.specs.Form.{Form, ExitForm, EscapeForm, ParamForm, ControlForm, word, exit_line, escape_name, param_name, control_name}
use Rattle.press_asm.specs.Reading.{form_of}

abbrev pub param_kind_line : ℕ → Option ℕ → ℕ → List ℕ
param_kind_line character group end = param_name ++ word character group [] end

-- The line of a kind: that of its commands, without field and data; the name alone, where these are bytes and nothing else.
abbrev pub kind_line : Kind → List ℕ
kind_line (kinds.Escape byte) = escape_name ++ (byte ∷ [])
kind_line (kinds.Param character group end) = param_kind_line character group end
kind_line (kinds.Control byte) = control_name ++ encode_upper (byte ∷ [])
kind_line (kinds.Text byte) = codes "txt"
kind_line kinds.Broken = codes "brk"
kind_line kinds.Uel = exit_line
kind_line kinds.PjlLine = codes "pjl"
kind_line (kinds.Foreign byte) = codes "for"

-- The kind that a form is of: an escape sequence, a parameter without field and data, a control byte, or a universal exit.
abbrev pub kind_of_form : Form → Option Kind
kind_of_form ExitForm = Some kinds.Uel
kind_of_form (EscapeForm byte) = Some (kinds.Escape byte)
kind_of_form (ParamForm character group [] end []) = Some (kinds.Param character group end)
kind_of_form (ControlForm byte) = Some (kinds.Control byte)
kind_of_form _ = None

-- the kind that a line names
abbrev pub kind_in : List ℕ → Option Kind
kind_in line = option_and_then kind_of_form (form_of line)
