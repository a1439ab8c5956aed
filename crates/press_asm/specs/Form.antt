-- Lines of assembly text (this profile): which form a line has, and which command it stands for.
use Rattle.std.specs.Prelude.{◌≡◌, ◌⊎◌, ℕ, Bool, not, ◌==◌, List, [], ◌∷◌, ◌++◌, length, codes, Option, None, option_to_list, Ok, IsTrue}
use Rattle.std.specs.List.{list_all}
use Rattle.std.specs.Option.{ForSome}
use Rattle.std.specs.Str.{IsUtf8}
use Rattle.hex.specs.Hex.{decode_of, is_hex_digit}
use Rattle.press_units.specs.Field.{IsField}
use Rattle.press_cmd.specs.Token.{Token, Escape, Control, Text, Broken, Uel, PjlLine, ForeignByte, param_of}
use Rattle.press_cmd.specs.Carried.{data_count}
use Rattle.press_cmd.specs.Grammar.{IsEscapeEnd, IsControl, IsText, IsCharacter, IsGroup, IsEnd, IsPjlLine}

-- The forms of a line: one that stands for nothing; a universal exit; a two-character escape sequence; a parameter,
-- with its character, group, field, end, and the digits of its data; a control byte, a text byte, a byte of another
-- language; and the digits of bytes that broke, and of a PJL line.
pub data Form : Type 0 where
  Blank : Form
  ExitForm : Form
  EscapeForm : ℕ → Form
  ParamForm : ℕ → Option ℕ → List ℕ → ℕ → List ℕ → Form
  ControlForm : ℕ → Form
  TextForm : ℕ → Form
  ForeignForm : ℕ → Form
  BrokenForm : List ℕ → Form
  LineForm : List ℕ → Form

-- The name of each form, with the space behind it; a universal exit is its name alone.
abbrev pub exit_line : List ℕ
exit_line = codes "uel"

abbrev pub escape_name : List ℕ
escape_name = codes "esc "

abbrev pub param_name : List ℕ
param_name = codes "par "

abbrev pub control_name : List ℕ
control_name = codes "ctl "

abbrev pub text_name : List ℕ
text_name = codes "txt "

abbrev pub foreign_name : List ℕ
foreign_name = codes "for "

abbrev pub broken_name : List ℕ
broken_name = codes "brk "

abbrev pub line_name : List ℕ
line_name = codes "pjl "

abbrev pub is_space : ℕ → Bool
is_space byte = byte == 32

abbrev pub is_no_space : ℕ → Bool
is_no_space byte = not (is_space byte)

-- the word of a parameter
abbrev pub word : ℕ → Option ℕ → List ℕ → ℕ → List ℕ
word character group field end = character ∷ (option_to_list group ++ (field ++ (end ∷ [])))

-- digits after a space, if there are any
abbrev pub spaced : List ℕ → List ℕ
spaced [] = []
spaced (digit ∷ digits) = 32 ∷ digit ∷ digits

-- These are the parts of a parameter's word: each byte is of its class, a byte after the character that is a group
-- character is the group, and the word has no space and is no universal exit. Nothing else is said of the field.
pub record IsWord (character : ℕ) (group : Option ℕ) (field : List ℕ) (end : ℕ) : Type 0 where
  pub character_class : IsCharacter character
  pub group_class : ForSome group IsGroup
  pub no_group : (byte : ℕ) (later : List ℕ) → group ≡ None → field ≡ byte ∷ later → IsGroup byte → ⊥
  pub one_word : IsTrue (list_all is_no_space field)
  pub end_class : IsEnd end
  pub no_exit : word character group field end ≡ codes "%-12345X" → ⊥

-- the line is this name, and then the two digits of the byte, in letters of either case
abbrev pub NamesByte : List ℕ → List ℕ → ℕ → Type 0
NamesByte name line byte = (digits : List ℕ) × (line ≡ name ++ digits) × (decode_of digits ≡ Ok (byte ∷ []))

-- the line is this name, and then one or more digits
abbrev pub NamesDigits : List ℕ → List ℕ → List ℕ → Type 0
NamesDigits name line digits = (line ≡ name ++ digits) × IsTrue (list_all is_hex_digit digits) × (digits ≡ [] → ⊥)

-- The line is spelled as the form is.
abbrev pub Spells : List ℕ → Form → Type 0
Spells line Blank = (line ≡ []) ⊎ ((comment : List ℕ) × (line ≡ 59 ∷ comment))
Spells line ExitForm = line ≡ exit_line
Spells line (EscapeForm byte) = (line ≡ escape_name ++ (byte ∷ [])) × IsEscapeEnd byte
Spells line (ParamForm character group field end digits) =
    (line ≡ param_name ++ (word character group field end ++ spaced digits)) × IsWord character group field end
    × IsTrue (list_all is_hex_digit digits)
Spells line (ControlForm byte) = NamesByte control_name line byte × IsControl byte
Spells line (TextForm byte) = NamesByte text_name line byte × IsText byte
Spells line (ForeignForm byte) = NamesByte foreign_name line byte
Spells line (BrokenForm digits) = NamesDigits broken_name line digits
Spells line (LineForm digits) = NamesDigits line_name line digits

-- The line has the form: it is text, and is spelled so.
abbrev pub HasForm : List ℕ → Form → Type 0
HasForm line form = IsUtf8 line × Spells line form

-- The form stands for the command: the digits are those of its bytes, a field is a value field, the data is as long
-- as its value says, and a PJL line is one.
abbrev pub Means : Form → Token → Type 0
Means ExitForm command = command ≡ Uel
Means (EscapeForm byte) command = command ≡ Escape byte
Means (ParamForm character group field end digits) command =
    IsField field × (payload : List ℕ) × (decode_of digits ≡ Ok payload)
    × (length payload ≡ data_count character group field end) × (command ≡ param_of character group field end payload)
Means (ControlForm byte) command = command ≡ Control byte
Means (TextForm byte) command = command ≡ Text byte
Means (ForeignForm byte) command = command ≡ ForeignByte byte
Means (BrokenForm digits) command = (bytes : List ℕ) × (decode_of digits ≡ Ok bytes) × (command ≡ Broken bytes)
Means (LineForm digits) command = (bytes : List ℕ) × (decode_of digits ≡ Ok bytes) × IsPjlLine bytes × (command ≡ PjlLine bytes)
Means Blank command = ⊥

-- The line stands for the command.
abbrev pub StandsFor : List ℕ → Token → Type 0
StandsFor line command = (form : Form) × HasForm line form × Means form command

-- the field of the form, where it has one, is a value field
abbrev pub HasValue : Form → Type 0
HasValue (ParamForm character group field end digits) = IsField field
HasValue _ = Unit {0}

-- the form stands for these commands: none where it is blank, and else one
abbrev pub Gives : Form → List Token → Type 0
Gives Blank commands = commands ≡ []
Gives form commands = (command : Token) × (commands ≡ command ∷ []) × Means form command

-- A bad line: it has no form.
abbrev pub IsBadLine : List ℕ → Type 0
IsBadLine line = (form : Form) → HasForm line form → ⊥

-- A bad value: the line has a form whose field is no value field.
abbrev pub IsBadValue : List ℕ → Type 0
IsBadValue line = (form : Form) × HasForm line form × (HasValue form → ⊥)

-- Bad data: the line has a form, its field is a value field if it has one, and it stands for nothing all the same.
abbrev pub IsBadData : List ℕ → Type 0
IsBadData line = (form : Form) × HasForm line form × HasValue form × ((commands : List Token) → Gives form commands → ⊥)
