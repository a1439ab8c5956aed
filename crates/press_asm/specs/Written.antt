-- The lines that a disassembler writes.
use Rattle.std.specs.Prelude.{ℕ, List, [], ◌∷◌, ◌++◌, Option, Some, None, option_to_list, IsTrue}
use Rattle.std.specs.List.{list_all}
use Rattle.hex.specs.Hex.{encode_upper}
use Rattle.press_units.specs.Ascii.{is_printable}
use Rattle.press_cmd.specs.Token.{Token, Escape, Grouped, Ungrouped, Control, Text, Broken, Uel, PjlLine, ForeignByte, character_of, group_of, escape_byte}
use Rattle.press_asm.specs.Form.{word, spaced, StandsFor, exit_line, escape_name, param_name, control_name, text_name, foreign_name, broken_name, line_name}

-- the line of a command, with digits in upper case
abbrev pub written_line : Token → List ℕ
written_line (Escape byte) = escape_name ++ (byte ∷ [])
written_line (Grouped character group field end payload) = param_name ++ (word character (Some group) field end ++ spaced (encode_upper payload))
written_line (Ungrouped character field end payload) = param_name ++ (word character None field end ++ spaced (encode_upper payload))
written_line (Control byte) = control_name ++ encode_upper (byte ∷ [])
written_line (Text byte) = text_name ++ encode_upper (byte ∷ [])
written_line (Broken bytes) = broken_name ++ encode_upper bytes
written_line Uel = exit_line
written_line (PjlLine line) = line_name ++ encode_upper line
written_line (ForeignByte byte) = foreign_name ++ encode_upper (byte ∷ [])

-- the lines of commands as a text, each with its line feed
abbrev pub text_of : List Token → List ℕ
text_of [] = []
text_of (command ∷ commands) = written_line command ++ (10 ∷ text_of commands)

-- the name of a parameter's line, its character, and its group if it has one
abbrev pub prefix_of : Token → List ℕ
prefix_of command = param_name ++ (character_of command ∷ option_to_list (group_of command))

-- the beginning of a sequence that stands apart: the escape character, the character and the group
abbrev pub beginning : Option (ℕ × ℕ) → List ℕ
beginning None = []
beginning (Some sequence) = escape_byte ∷ sequence.0 ∷ sequence.1 ∷ []

-- The command's line stands for it, and is printable.
pub record IsWritten (command : Token) : Type 0 where
  pub stands : StandsFor (written_line command) command
  pub printable : IsTrue (list_all is_printable (written_line command))

-- the line of each of the commands stands for it
abbrev pub AreWritten : List Token → Type 0
AreWritten [] = Unit {0}
AreWritten (command ∷ commands) = IsWritten command × AreWritten commands
