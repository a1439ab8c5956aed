-- Reading the first command of bytes, one byte after another: a program that decides which Head stands there.
use Rattle.std.specs.Prelude.{ℕ, zero, suc, ◌+◌, ◌-◌, Bool, true, ◌==◌, cond, List, [], ◌∷◌, ◌++◌, length, Option, Some, None, bytes_eq}
use Rattle.std.specs.Int.{is_in_range}
use Rattle.press_cmd.specs.Token.{Token, Escape, Grouped, Ungrouped, Control, Text, Broken, Uel, PjlLine, ForeignByte, uel, escape_byte, pjl_mark}
use Rattle.press_cmd.specs.ParserState.{ParserState, Exit, OverlongLine, OtherLanguage, Pcl, Open}
use Rattle.press_cmd.specs.Carried.{data_count}
use Rattle.press_units.specs.Field.{is_value_field}
use Rattle.press_cmd.specs.Language.{mode_after}
use Rattle.press_cmd.specs.Grammar.{differs, scanned_in, longest_line}

-- What has been read of a sequence: nothing, the escape character, a field without a group, a field after a group,
-- and the data of either, with how many bytes are to come after the next one.
pub data State : Type 0 where
  Start : State
  Escaped : State
  Single : ℕ → List ℕ → State
  Pair : ℕ → ℕ → List ℕ → State
  SingleData : ℕ → List ℕ → ℕ → ℕ → List ℕ → State
  PairData : ℕ → ℕ → List ℕ → ℕ → ParserState → ℕ → List ℕ → State

-- what the next byte does: it goes on, it is the last of a command, it breaks what stood before it, or it is no byte
pub data Step : Type 0 where
  Goes : State → Step
  Gives : Token → ParserState → Step
  Stops : Token → Step
  Nothing : Step

-- the first command with the mode after it and what is left, or that none stands there yet
pub data Reading : Type 0 where
  Short : Reading
  Found : Token → ParserState → List ℕ → Reading

-- whether the byte makes the field longer
unfoldable pub extends : List ℕ → ℕ → Bool
extends field byte = is_value_field (field ++ (byte ∷ []))

unfoldable pub is_end : ℕ → Bool
is_end byte = is_in_range 64 94 byte

unfoldable pub is_earlier_end : ℕ → Bool
is_earlier_end byte = is_in_range 96 126 byte

unfoldable pub is_escape_end : ℕ → Bool
is_escape_end byte = is_in_range 48 126 byte

unfoldable pub is_character : ℕ → Bool
is_character byte = is_in_range 33 47 byte

unfoldable pub is_control : ℕ → Bool
is_control byte = is_in_range 0 31 byte

unfoldable pub is_text : ℕ → Bool
is_text byte = is_in_range 32 255 byte

unfoldable pub is_escape : ℕ → Bool
is_escape byte = byte == escape_byte

-- whether a sequence without group is the universal exit
unfoldable pub is_exit : ℕ → List ℕ → ℕ → Bool
is_exit character field end = bytes_eq (escape_byte ∷ character ∷ (field ++ (end ∷ []))) uel

-- a sequence without group that has its ending byte, with the number of its data bytes
abbrev pub single_with : ℕ → List ℕ → ℕ → ℕ → Step
single_with character field end zero = cond (is_exit character field end) (Gives Uel Exit) (Gives (Ungrouped character field end []) Pcl)
single_with character field end (suc count) = Goes (SingleData character field end count [])

-- a pair that has its ending byte, with the number of its data bytes
abbrev pub pair_with : ℕ → ℕ → List ℕ → ℕ → ParserState → ℕ → Step
pair_with character group field end next zero = Gives (Grouped character group field end []) next
pair_with character group field end next (suc count) = Goes (PairData character group field end next count [])

-- the group, where a byte may be one: right after the character
abbrev pub group_or_break : ℕ → List ℕ → ℕ → Bool → Step
group_or_break character [] byte true = Goes (Pair character byte [])
group_or_break character field byte _ = Stops (Broken (escape_byte ∷ character ∷ field))

abbrev pub step : State → ℕ → Step
step Start byte =
    cond (is_escape byte) (Goes Escaped)
    (cond (is_control byte) (Gives (Control byte) Pcl)
    (cond (is_text byte) (Gives (Text byte) Pcl) Nothing))
step Escaped byte =
    cond (is_escape_end byte) (Gives (Escape byte) Pcl)
    (cond (is_character byte) (Goes (Single byte [])) (Stops (Broken (escape_byte ∷ []))))
step (Single character field) byte =
    cond (extends field byte) (Goes (Single character (field ++ (byte ∷ []))))
    (cond (is_end byte) (single_with character field byte (data_count character None field byte))
    (group_or_break character field byte (is_earlier_end byte)))
step (Pair character group field) byte =
    cond (extends field byte) (Goes (Pair character group (field ++ (byte ∷ []))))
    (cond (is_end byte) (pair_with character group field byte Pcl (data_count character (Some group) field byte))
    (cond (is_earlier_end byte) (pair_with character group field (byte - 32) (Open character group) (data_count character (Some group) field (byte - 32)))
    (Stops (Broken (escape_byte ∷ character ∷ group ∷ field)))))
step (SingleData character field end zero payload) byte = Gives (Ungrouped character field end (payload ++ (byte ∷ []))) Pcl
step (SingleData character field end (suc count) payload) byte = Goes (SingleData character field end count (payload ++ (byte ∷ [])))
step (PairData character group field end next zero payload) byte = Gives (Grouped character group field end (payload ++ (byte ∷ []))) next
step (PairData character group field end next (suc count) payload) byte = Goes (PairData character group field end next count (payload ++ (byte ∷ [])))

-- what the next byte does, and then the rest
abbrev pub after_step : Step → ℕ → List ℕ → (State → Reading) → Reading
after_step (Goes state) byte bytes further = further state
after_step (Gives command next) byte bytes further = Found command next bytes
after_step (Stops command) byte bytes further = Found command Pcl (byte ∷ bytes)
after_step Nothing byte bytes further = Short

-- reading a sequence on
abbrev pub read_on : State → List ℕ → Reading
read_on state [] = Short
read_on state (byte ∷ bytes) = after_step (step state byte) byte bytes (λ further. read_on further bytes)

-- what follows the text, where the bytes begin with it
abbrev pub stripped : List ℕ → List ℕ → Option (List ℕ)
stripped [] bytes = Some bytes
stripped (byte ∷ text) [] = None
stripped (byte ∷ text) (other ∷ bytes) = cond (byte == other) (stripped text bytes) None

unfoldable pub is_feed : ℕ → Bool
is_feed byte = byte == 10

unfoldable pub is_full : List ℕ → Bool
is_full prefix = length prefix + 1 == longest_line

-- reading a PJL line on, of which the front stands
abbrev pub read_line : List ℕ → List ℕ → Reading
read_line prefix [] = Short
read_line prefix (byte ∷ bytes) =
    cond (is_feed byte) (Found (PjlLine (prefix ++ (byte ∷ []))) (mode_after (prefix ++ (byte ∷ []))) bytes)
    (cond (is_escape byte) (Found (Broken prefix) Exit (byte ∷ bytes))
    (cond (is_full prefix) (Found (Broken (prefix ++ (byte ∷ []))) OverlongLine bytes)
    (read_line (prefix ++ (byte ∷ [])) bytes)))

abbrev pub read_after_mark : Option (List ℕ) → Reading
read_after_mark None = Short
read_after_mark (Some bytes) = read_line pjl_mark bytes

abbrev pub read_foreign : Option (List ℕ) → Bool → ℕ → List ℕ → Reading
read_foreign (Some rest) other byte bytes = Found Uel Exit rest
read_foreign None other byte bytes = cond other (Found (ForeignByte byte) OtherLanguage bytes) Short

-- the first command of the bytes in the mode in which they are scanned
abbrev pub reading_in : ParserState → List ℕ → Reading
reading_in Exit bytes = read_after_mark (stripped pjl_mark bytes)
reading_in OverlongLine [] = Short
reading_in OverlongLine (byte ∷ bytes) = Found (Broken (byte ∷ [])) (cond (byte == 10) Exit OverlongLine) bytes
reading_in OtherLanguage [] = Short
reading_in OtherLanguage (byte ∷ bytes) = read_foreign (stripped uel (byte ∷ bytes)) (differs uel (byte ∷ bytes)) byte bytes
reading_in Pcl bytes = read_on Start bytes
reading_in (Open character group) bytes = read_on (Pair character group []) bytes

-- The first command of the bytes.
abbrev pub reading : ParserState → List ℕ → Reading
reading mode bytes = reading_in (scanned_in mode bytes) bytes
