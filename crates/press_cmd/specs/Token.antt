-- A command as a value, with nothing of where it lies in memory.
use Rattle.std.specs.Prelude.{ℕ, List, [], ◌∷◌, ◌++◌, Option, Some, None, codes}

-- The commands of a PCL 5 and PJL stream (PCL 5 Printer Language Technical Reference Manual, the syntax of
-- escape sequences; PJL Technical Reference Manual, the universal exit and PJL commands; Broken and Foreign
-- are this profile's):
-- a two-character escape sequence; a parameter of a parameterized one with a group character, and of one without,
-- each with its parameterized character, value field, parameter or termination character in upper case, and data;
-- a control byte; a text byte; bytes that begin a sequence or line which does not go on; the universal exit; a PJL
-- line with its line feed; and a byte of another language.
pub data Token : Type 0 where
  Escape : ℕ → Token
  Grouped : ℕ → ℕ → List ℕ → ℕ → List ℕ → Token
  Ungrouped : ℕ → List ℕ → ℕ → List ℕ → Token
  Control : ℕ → Token
  Text : ℕ → Token
  Broken : List ℕ → Token
  Uel : Token
  PjlLine : List ℕ → Token
  ForeignByte : ℕ → Token

-- the escape character
abbrev pub escape_byte : ℕ
escape_byte = 27

-- the universal exit: ESC%-12345X
abbrev pub uel : List ℕ
uel = escape_byte ∷ codes "%-12345X"

-- the text that a PJL line begins with, `@PJL`
abbrev pub pjl_mark : List ℕ
pjl_mark = codes "@PJL"

-- The bytes of a command by itself. A parameter is spelled as a sequence of its own: the escape character,
-- the character, the group if there is one, the field, the end in upper case, and the data.
abbrev pub bytes_of : Token → List ℕ
bytes_of (Escape byte) = escape_byte ∷ byte ∷ []
bytes_of (Grouped character group field end payload) = escape_byte ∷ character ∷ group ∷ (field ++ (end ∷ payload))
bytes_of (Ungrouped character field end payload) = escape_byte ∷ character ∷ (field ++ (end ∷ payload))
bytes_of (Control byte) = byte ∷ []
bytes_of (Text byte) = byte ∷ []
bytes_of (Broken bytes) = bytes
bytes_of Uel = uel
bytes_of (PjlLine line) = line
bytes_of (ForeignByte byte) = byte ∷ []

-- a parameter with a group or without
abbrev pub param_of : ℕ → Option ℕ → List ℕ → ℕ → List ℕ → Token
param_of character None field end payload = Ungrouped character field end payload
param_of character (Some group) field end payload = Grouped character group field end payload

-- bytes that begin a sequence or line which does not go on, after the character and group of the sequence
-- that they would go on with
abbrev pub broken_of : Option (ℕ × ℕ) → List ℕ → Token
broken_of None bytes = Broken bytes
broken_of (Some sequence) bytes = Broken (escape_byte ∷ sequence.0 ∷ sequence.1 ∷ bytes)

-- the parts of a parameter; of other commands they are 0, none and empty
abbrev pub character_of : Token → ℕ
character_of (Grouped character group field end payload) = character
character_of (Ungrouped character field end payload) = character
character_of _ = 0

abbrev pub group_of : Token → Option ℕ
group_of (Grouped character group field end payload) = Some group
group_of _ = None

abbrev pub field_of : Token → List ℕ
field_of (Grouped character group field end payload) = field
field_of (Ungrouped character field end payload) = field
field_of _ = []

abbrev pub end_of : Token → ℕ
end_of (Grouped character group field end payload) = end
end_of (Ungrouped character field end payload) = end
end_of _ = 0

-- the bytes of a PJL line; none of other commands
abbrev pub line_of : Token → List ℕ
line_of (PjlLine line) = line
line_of _ = []

abbrev pub data_of : Token → List ℕ
data_of (Grouped character group field end payload) = payload
data_of (Ungrouped character field end payload) = payload
data_of _ = []
