-- Which bytes are which command, by mode.
use Rattle.std.specs.Prelude.{◌≡◌, ◌≤◌, ◌<◌, ◌+◌, ◌⊎◌, ℕ, Bool, true, false, ◌==◌, ◌&&◌, ◌||◌, not, if◌then◌else◌, List, [], ◌∷◌}
use Rattle.std.specs.Prelude.{◌++◌, length, Some, None, IsTrue}
use Rattle.std.specs.Int.{IsInRange, is_in_range}
use Rattle.std.specs.List.{list_all}
use Rattle.press_units.specs.Field.{IsField, is_field_byte}
use Rattle.press_cmd.specs.Token.{Token, Escape, Grouped, Ungrouped, Control, Text, Broken, Uel, PjlLine, ForeignByte, uel, pjl_mark, escape_byte}
use Rattle.press_cmd.specs.ParserState.{ParserState, Exit, OverlongLine, OtherLanguage, Pcl, Open}
use Rattle.press_cmd.specs.Carried.{data_count}
use Rattle.press_cmd.specs.Language.{mode_after}

-- the most bytes that a PJL line has (this profile)
abbrev pub longest_line : ℕ
longest_line = 4096

-- The classes of bytes in a parameterized escape sequence, in HP's words: the parameterized character, the group
-- character, the termination character, and a parameter character
-- (PCL 5 Printer Language Technical Reference Manual, the syntax of escape sequences).
abbrev pub IsCharacter : ℕ → Type 0
IsCharacter byte = IsInRange 33 47 byte

abbrev pub IsGroup : ℕ → Type 0
IsGroup byte = IsInRange 96 126 byte

abbrev pub IsEnd : ℕ → Type 0
IsEnd byte = IsInRange 64 94 byte

abbrev pub IsEarlierEnd : ℕ → Type 0
IsEarlierEnd byte = IsInRange 96 126 byte

-- control bytes are 0 to 31 without the escape character; text bytes 32 to 255; the second byte of a two-character
-- escape sequence is 48 to 126
abbrev pub IsControl : ℕ → Type 0
IsControl byte = (byte < 32) × (byte ≡ escape_byte → ⊥)

abbrev pub IsText : ℕ → Type 0
IsText byte = IsInRange 32 255 byte

abbrev pub IsEscapeEnd : ℕ → Type 0
IsEscapeEnd byte = IsInRange 48 126 byte

-- the byte that ends a pair, the end that it stands for, and the mode after it: the sequence ends at a termination
-- character, and goes on after a parameter character, which stands for the one 32 below it
abbrev pub Ends : ℕ → ℕ → ℕ → ℕ → ParserState → Type 0
Ends character group byte end next =
    (IsEnd byte × (end ≡ byte) × (next ≡ Pcl)) ⊎ (IsEarlierEnd byte × (end + 32 ≡ byte) × (next ≡ Open character group))

-- a value field, the parameter or termination character behind it in upper case, and the data that the value announces
pub record ValuePair : Type 0 where
  pub field : List ℕ
  pub end : ℕ
  pub payload : List ℕ

abbrev pub value_pair : (field : List ℕ) (end : ℕ) (payload : List ℕ) → ValuePair
value_pair field end payload = record { field = field; end = end; payload = payload }

-- These bytes are a pair of a value field and its ending byte, with the data that the value announces.
pub record IsPair (character group : ℕ) (bytes : List ℕ) (pair : ValuePair) (next : ParserState) : Type 0 where
  pub byte : ℕ
  pub spelled : bytes ≡ pair.field ++ (byte ∷ pair.payload)
  pub value_field : IsField pair.field
  pub ends : Ends character group byte pair.end next
  pub count : length pair.payload ≡ data_count character (Some group) pair.field pair.end

-- These bytes are a sequence with a group, up to the end of its first pair.
pub record IsGrouped (bytes : List ℕ) (character group : ℕ) (first : ValuePair) (next : ParserState) : Type 0 where
  pub pair : List ℕ
  pub spelled : bytes ≡ escape_byte ∷ character ∷ group ∷ pair
  pub character_class : IsCharacter character
  pub group_class : IsGroup group
  pub is_pair : IsPair character group pair first next

-- These bytes are a sequence without a group: one value field, and one ending byte in upper case. A universal exit is none.
pub record IsUngrouped (bytes : List ℕ) (character : ℕ) (field : List ℕ) (end : ℕ) (payload : List ℕ) : Type 0 where
  pub spelled : bytes ≡ escape_byte ∷ character ∷ (field ++ (end ∷ payload))
  pub character_class : IsCharacter character
  pub value_field : IsField field
  pub end_class : IsEnd end
  pub count : length payload ≡ data_count character None field end
  pub no_exit : bytes ≡ uel → ⊥

-- Whole commands of PCL: in which mode which bytes are which command, and the mode after it. What is not listed cannot be.
abbrev pub Whole : ParserState → List ℕ → Token → ParserState → Type 0
Whole Pcl bytes (Escape byte) next = IsEscapeEnd byte × (bytes ≡ escape_byte ∷ byte ∷ []) × (next ≡ Pcl)
Whole Pcl bytes (Grouped character group field end payload) next = IsGrouped bytes character group (value_pair field end payload) next
Whole Pcl bytes (Ungrouped character field end payload) next = IsUngrouped bytes character field end payload × (next ≡ Pcl)
Whole Pcl bytes (Control byte) next = IsControl byte × (bytes ≡ byte ∷ []) × (next ≡ Pcl)
Whole Pcl bytes (Text byte) next = IsText byte × (bytes ≡ byte ∷ []) × (next ≡ Pcl)
Whole Pcl bytes Uel next = (bytes ≡ uel) × (next ≡ Exit)
Whole (Open character group) bytes (Grouped c g field end payload) next = (c ≡ character) × (g ≡ group) × IsPair character group bytes (value_pair field end payload) next
Whole _ _ _ _ = ⊥

-- What stands is the beginning of a whole command, and not yet one.
abbrev pub GoesOn : ParserState → List ℕ → Type 0
GoesOn mode bytes = (byte : ℕ) × (more : List ℕ) × (command : Token) × (next : ParserState) × Whole mode (bytes ++ (byte ∷ more)) command next

-- A sequence breaks: what stands could go on to a whole command, and no longer can with the next byte.
pub record Breaks (mode : ParserState) (bytes following : List ℕ) : Type 0 where
  pub byte : ℕ
  pub later : List ℕ
  pub stands : bytes ≡ [] → ⊥
  pub next_byte : following ≡ byte ∷ later
  pub could : GoesOn mode bytes
  pub cannot : (more : List ℕ) (command : Token) (next : ParserState) → Whole mode (bytes ++ (byte ∷ more)) command next → ⊥

-- whether the byte may stand in a PJL line before its line feed: all but the line feed and the escape character
abbrev pub is_line_byte : ℕ → Bool
is_line_byte byte = not (byte == 10) && not (byte == escape_byte)

-- These bytes begin a PJL line, and neither a line feed nor an escape character stands in them.
pub record BeginsLine (bytes : List ℕ) : Type 0 where
  pub text : List ℕ
  pub mark : bytes ≡ pjl_mark ++ text
  pub plain : IsTrue (list_all is_line_byte text)

-- These bytes are a PJL line: up to and with its line feed, in at most 4,096 bytes.
pub record IsPjlLine (bytes : List ℕ) : Type 0 where
  pub prefix : List ℕ
  pub spelled : bytes ≡ prefix ++ (10 ∷ [])
  pub begins : BeginsLine prefix
  pub fits : length bytes ≤ longest_line

-- A PJL line breaks: at an escape character, which is scanned anew in mode Exit, or where 4,096 bytes of it stand,
-- after which the mode is OverlongLine.
abbrev pub BreaksLine : List ℕ → List ℕ → ParserState → Type 0
BreaksLine bytes following next =
    BeginsLine bytes × (((later : List ℕ) × (following ≡ escape_byte ∷ later) × (length bytes < longest_line) × (next ≡ Exit))
    ⊎ ((length bytes ≡ longest_line) × (next ≡ OverlongLine)))

-- one byte of what is left of a line that is too long: after its line feed the mode is Exit
abbrev pub IsTailByte : List ℕ → ParserState → Type 0
IsTailByte bytes next = (byte : ℕ) × (bytes ≡ byte ∷ []) × (next ≡ (if byte == 10 then Exit else OverlongLine))

-- whether the bytes differ from the text at a place that both have
abbrev pub differs : List ℕ → List ℕ → Bool
differs [] bytes = false
differs (byte ∷ text) [] = false
differs (byte ∷ text) (other ∷ bytes) = if byte == other then differs text bytes else true

-- whether a pair of a sequence can begin with the byte: one of a value field, or an ending byte
abbrev pub begins_pair : ℕ → Bool
begins_pair byte = is_field_byte byte || (is_in_range 64 94 byte || is_in_range 96 126 byte)

-- The mode in which the bytes ahead are scanned. Without a command, bytes that do not begin with `@PJL` leave Exit
-- for Pcl, an escape character leaves OverlongLine for Exit (and so for Pcl), and a byte that begins no pair leaves an open sequence.
abbrev pub scanned_after_exit : List ℕ → ParserState
scanned_after_exit ahead = if differs pjl_mark ahead then Pcl else Exit

abbrev pub scanned_in : ParserState → List ℕ → ParserState
scanned_in Exit ahead = scanned_after_exit ahead
scanned_in OverlongLine [] = OverlongLine
scanned_in OverlongLine (byte ∷ ahead) = if byte == escape_byte then scanned_after_exit (byte ∷ ahead) else OverlongLine
scanned_in (Open character group) [] = Open character group
scanned_in (Open character group) (byte ∷ ahead) = if begins_pair byte then Open character group else Pcl
scanned_in mode ahead = mode

-- These bytes, followed by those, are the command, in the mode in which they are scanned; and the mode after it.
-- A byte of a foreign language is one as soon as it begins no universal exit. A broken sequence that had given a
-- command begins with its escape character, character and group again.
abbrev pub Stands : ParserState → List ℕ → List ℕ → Token → ParserState → Type 0
Stands Exit bytes following (PjlLine line) next = (line ≡ bytes) × IsPjlLine bytes × (next ≡ mode_after bytes)
Stands Exit bytes following (Broken broken) next = (broken ≡ bytes) × BreaksLine bytes following next
Stands OverlongLine bytes following (Broken broken) next = (broken ≡ bytes) × IsTailByte bytes next
Stands OtherLanguage bytes following Uel next = (bytes ≡ uel) × (next ≡ Exit)
Stands OtherLanguage bytes following (ForeignByte byte) next = (bytes ≡ byte ∷ []) × IsTrue (differs uel (byte ∷ following)) × (next ≡ OtherLanguage)
Stands Pcl bytes following (Broken broken) next = (broken ≡ bytes) × Breaks Pcl bytes following × (next ≡ Pcl)
Stands (Open character group) bytes following (Broken broken) next =
    (broken ≡ escape_byte ∷ character ∷ group ∷ bytes) × Breaks (Open character group) bytes following × (next ≡ Pcl)
Stands mode bytes following command next = Whole mode bytes command next

-- Head of a list of bytes: in this mode these bytes, followed by those, are the command and leave the next mode.
abbrev pub Head : ParserState → List ℕ → List ℕ → Token → ParserState → Type 0
Head mode bytes following command next = Stands (scanned_in mode (bytes ++ following)) bytes following command next

-- Bytes that a broken command may have: one byte of what is left of a line, a line that is cut off, or the beginning
-- of a sequence of PCL that is no whole command yet.
abbrev pub IsBroken : List ℕ → Type 0
IsBroken bytes = (length bytes ≡ 1) ⊎ ((BeginsLine bytes × (length bytes ≤ longest_line)) ⊎ ((bytes ≡ [] → ⊥) × GoesOn Pcl bytes))
