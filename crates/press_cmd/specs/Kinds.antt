-- Kinds of commands.
use Rattle.std.specs.Prelude.{Some, None}
use Rattle.press_cmd.specs.Token.{Token, Escape, Grouped, Ungrouped, Control, Text, Broken, Uel, PjlLine, ForeignByte}
use Rattle.press_cmd.specs.declared.variant.Kind.{Kind}
use Rattle.press_cmd.specs.declared.variant.Kind.TheVariants as kinds

-- the kind of a command: its variant, with the byte, or with character, group and end
abbrev pub kind_of : Token → Kind
kind_of (Escape byte) = kinds.Escape byte
kind_of (Grouped character group field end payload) = kinds.Param character (Some group) end
kind_of (Ungrouped character field end payload) = kinds.Param character None end
kind_of (Control byte) = kinds.Control byte
kind_of (Text byte) = kinds.Text byte
kind_of (Broken bytes) = kinds.Broken
kind_of Uel = kinds.Uel
kind_of (PjlLine line) = kinds.PjlLine
kind_of (ForeignByte byte) = kinds.Foreign byte
