-- A command from the number of its variant and its bytes.
use Rattle.std.specs.Prelude.{◌≡◌, ◌+◌, ℕ, ◌==◌, if◌then◌else◌, List, [], ◌∷◌, length, Option, Some, None, IsTrue, Bool, nat_le, ⊤}
use Rattle.std.specs.Option.{ForSome}
use Rattle.press_units.specs.Field.{is_value_field, longest_field}
use Rattle.press_cmd.specs.Carried.{data_count, longest_data}
use Rattle.press_cmd.specs.Grammar.{IsCharacter, IsGroup, IsEnd, IsEscapeEnd, IsControl, IsText, IsPjlLine, IsBroken}
use Rattle.press_cmd.specs.Token.{Token, Escape, Grouped, Ungrouped, Control, Text, Broken, Uel, PjlLine, ForeignByte, uel, bytes_of, param_of}

-- The numbers of the variants. Both kinds of parameters have one number: their bytes tell them apart.
abbrev pub variant_of : Token → ℕ
variant_of (Escape byte) = 0
variant_of (Grouped character group field end payload) = 1
variant_of (Ungrouped character field end payload) = 1
variant_of (Control byte) = 2
variant_of (Text byte) = 3
variant_of (Broken bytes) = 4
variant_of Uel = 5
variant_of (PjlLine line) = 6
variant_of (ForeignByte byte) = 7

-- whether the byte can end a value field: those of a value field are below 64, and a termination character is not
abbrev pub is_past_field : ℕ → Bool
is_past_field byte = nat_le 64 byte

-- a value field at the front, and what follows it, which begins with the end
abbrev pub field_split : List ℕ → List ℕ × List ℕ
field_split [] = ([], [])
field_split (byte ∷ bytes) =
    if is_past_field byte then ([], byte ∷ bytes) else (byte ∷ (field_split bytes).0, (field_split bytes).1)

abbrev pub ended_with : (List ℕ → ℕ → List ℕ → Token) → List ℕ → List ℕ → Token
ended_with make field [] = make field 0 []
ended_with make field (end ∷ payload) = make field end payload

abbrev pub ending : (List ℕ → ℕ → List ℕ → Token) → List ℕ × List ℕ → Token
ending make parts = ended_with make parts.0 parts.1

-- a parameter from its bytes: the byte after its character is a group from 96 on
abbrev pub param_from : List ℕ → Token
param_from (escape ∷ character ∷ next ∷ rest) =
    if nat_le 96 next then ending (Grouped character next) (field_split rest) else ending (Ungrouped character) (field_split (next ∷ rest))
param_from other = Uel

abbrev pub byte_at_0 : List ℕ → ℕ
byte_at_0 [] = 0
byte_at_0 (byte ∷ bytes) = byte

abbrev pub byte_at_1 : List ℕ → ℕ
byte_at_1 [] = 0
byte_at_1 (byte ∷ bytes) = byte_at_0 bytes

-- The command with this number of its variant and these bytes.
abbrev pub token_from : (variant : ℕ) → List ℕ → Token
token_from variant bytes =
    if variant == 0 then Escape (byte_at_1 bytes) else if variant == 1 then param_from bytes
    else if variant == 2 then Control (byte_at_0 bytes) else if variant == 3 then Text (byte_at_0 bytes)
    else if variant == 4 then Broken bytes else if variant == 5 then Uel else if variant == 6 then PjlLine bytes
    else ForeignByte (byte_at_0 bytes)

-- These are the parts of a parameter.
pub record IsParameter (character : ℕ) (group : Option ℕ) (field : List ℕ) (end : ℕ) (payload : List ℕ) : Type 0 where
  pub character_class : IsCharacter character
  pub group_class : ForSome group IsGroup
  pub value_field : IsTrue (is_value_field field)
  pub end_class : IsEnd end
  pub count : length payload ≡ data_count character group field end
  pub no_exit : bytes_of (param_of character group field end payload) ≡ uel → ⊥

-- What is so of each command of the code: its parts have their ranges. That a byte is one is known of the bytes.
abbrev pub IsSound : Token → Type 0
IsSound (Escape byte) = IsEscapeEnd byte
IsSound (Grouped character group field end payload) = IsParameter character (Some group) field end payload
IsSound (Ungrouped character field end payload) = IsParameter character None field end payload
IsSound (Control byte) = IsControl byte
IsSound (Text byte) = IsText byte
IsSound (Broken bytes) = ∥ IsBroken bytes ∥₁
IsSound Uel = ⊤
IsSound (PjlLine line) = ∥ IsPjlLine line ∥₁
IsSound (ForeignByte byte) = ⊤

-- The most bytes that a command has: the escape character, the parameterized character, the group character, the value
-- field, the termination character and the data.
abbrev pub longest_command : ℕ
longest_command = 4 + longest_field + longest_data

-- Variant and bytes determine the command.
abbrev pub StoredReadsBack : Type 0
StoredReadsBack = (command : Token) → IsSound command → token_from (variant_of command) (bytes_of command) ≡ command
