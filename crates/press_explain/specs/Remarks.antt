-- The remark on a command: what it is called, what its value is, and what it did.
use Rattle.std.specs.Prelude.{ℕ, ℤ, ◌-◌, ◌*◌, ◌^◌, ◌<◌, ◌≤◌, ◌==◌, ⊤, List, [], ◌∷◌, ◌++◌, length, map, min, take, codes, Bool, true, false, Option, Some, None, if◌then◌else◌}
use Rattle.std.specs.List.{flat_map}
use Rattle.std.specs.Ordering.{int_eq}
use Rattle.serde_json.specs.Data.{number, unsigned}
use Rattle.serde_json.specs.Find.{of_integer}
use Rattle.serde_json.specs.Written.{compact_text}
use Rattle.press_units.specs.Ascii.{is_printable}
use Rattle.press_units.specs.Value.{tenthousandths_of, whole_part}
use Rattle.press_cmd.specs.Kinds.{kind_of}
use Rattle.press_cmd.specs.Token.{Token, Broken, ForeignByte, PjlLine, Text, field_of}
use Rattle.press_cmd.specs.declared.variant.Kind.{Kind}
use Rattle.press_cmd.specs.declared.variant.Kind.TheVariants as kinds
use Rattle.press_asm.specs.Kinds.{kind_line}
use Rattle.press_bits.specs.declared.region.Region.{Region}
use Rattle.press_table.specs.declared.refusal.Refusal.{Refusal}
use Rattle.press_table.specs.declared.refusal.Refusal.TheVariants as refusals
use Rattle.press_engine.specs.declared.machine.Last.{Last}
use Rattle.press_engine.specs.declared.machine.Last.TheVariants as lasts
use Rattle.press_engine.specs.declared.view.View.{View}
use Rattle.press_trace.specs.declared.fields.Field.{Field}
use Rattle.press_trace.specs.declared.fields.Group.{Group}
use Rattle.press_trace.specs.declared.page.Change.{Change}
use Rattle.press_trace.specs.declared.page.Change.TheVariants as changes
use Rattle.press_trace.specs.declared.told.Told.{Told}
use Rattle.press_trace.specs.declared.told.Told.TheVariants.{Number, Flag, Places, Nothing}
use Rattle.press_trace.specs.Fields.{all_groups, fields_of, group_word, key_of, told_by}
use Rattle.press_trace.specs.Seen.{is_told}
use Rattle.press_trace.specs.Texts.{refusal_word}
use Rattle.press_explain.specs.Titles.{meanings, text_at, title_of}

-- a number and an integer in decimal digits
abbrev pub digits : ℕ → List ℕ
digits count = compact_text (number (unsigned count))

abbrev pub integer : ℤ → List ℕ
integer distance = compact_text (number (of_integer distance))

-- Bytes as they are shown: as ASCII, any other than 32 to 126 as a full stop, and of more than 60 the first 60.
abbrev pub most_shown : ℕ
most_shown = 60

abbrev pub shown_byte : ℕ → ℕ
shown_byte byte = if is_printable byte then byte else 46

abbrev pub shown : List ℕ → List ℕ
shown bytes = map shown_byte (take (min (length bytes) most_shown) bytes)

-- ---- what a command is

-- what a field of a kind means: nothing, where its whole part has no meaning
abbrev pub meaning_key : Kind → (field : List ℕ) → List ℕ
meaning_key kind field = kind_line kind ++ (32 ∷ integer (whole_part (tenthousandths_of field)))

abbrev pub in_brackets : Option (List ℕ) → List ℕ
in_brackets None = []
in_brackets (Some meaning) = codes " (" ++ (meaning ++ codes ")")

-- a value field behind a title, where there is one
abbrev pub field_said : Kind → (field : List ℕ) → List ℕ
field_said kind field =
    if length field == 0 then [] else codes ": " ++ (field ++ in_brackets (text_at (meaning_key kind field) meanings))

-- The value of a command: of text, of another language, of broken bytes and of a PJL line the bytes; of a parameter its field.
abbrev pub value_said : Token → List ℕ
value_said (Text byte) = codes ": " ++ shown (byte ∷ [])
value_said (ForeignByte byte) = codes ": " ++ shown (byte ∷ [])
value_said (Broken bytes) = codes ": " ++ shown bytes
value_said (PjlLine line) = codes ": " ++ shown line
value_said command = field_said (kind_of command) (field_of command)

-- The title of a command, and its value.
abbrev pub named : Token → List ℕ
named command = title_of (kind_of command) ++ value_said command

-- ---- what it did

-- what changed of the open page
abbrev pub corner_said : Region → List ℕ
corner_said region = codes " dots at " ++ (digits (8 * region.left) ++ (codes ", " ++ digits region.top))

abbrev pub extent_said : (width height : ℕ) → List ℕ
extent_said width height = codes "; marks within " ++ (digits width ++ (codes " by " ++ digits height))

abbrev pub box_said : Region → List ℕ
box_said region = extent_said (8 * (region.right - region.left)) (region.bottom - region.top) ++ corner_said region

abbrev pub page_said : Change → List ℕ
page_said changes.Nothing = []
page_said changes.Closed = codes "; the page closes"
page_said (changes.Patch region) = box_said region

-- a box has its sides in order, and is small
abbrev pub IsBox : Change → Type 0
IsBox (changes.Patch region) = (region.top ≤ region.bottom) × (region.left ≤ region.right) × (8 * region.right < 2 ^ 64)
IsBox change = ⊤

-- what was one thing and is another
abbrev pub changed_word : List ℕ → List ℕ
changed_word word = codes "; " ++ (word ++ codes " ")

abbrev pub from_to : (word old new : List ℕ) → List ℕ
from_to word old new = changed_word word ++ (old ++ (codes " to " ++ new))

-- how many sheets were handed out
abbrev pub sheets_said : (old new : ℕ) → List ℕ
sheets_said old new = if old == new then [] else from_to (codes "sheets") (digits old) (digits new)

-- how many commands of bodies ran, of so many steps
abbrev pub bodies_said : (steps : ℕ) → List ℕ
bodies_said steps = if steps - 1 == 0 then [] else codes "; runs " ++ (digits (steps - 1) ++ codes " recorded commands")

-- a place of the cursor
abbrev pub moved_said : (axis : List ℕ) (old new : ℤ) → List ℕ
moved_said axis old new = if int_eq old new then [] else from_to axis (integer old) (integer new)

-- what a field tells
abbrev pub told_said : Told → List ℕ
told_said (Number count) = digits count
told_said (Flag true) = codes "on"
told_said (Flag false) = codes "off"
told_said (Places places) = digits (length places.now) ++ codes " pushed"
told_said Nothing = codes "none"

-- a field that tells something else than before
abbrev pub field_word : Group → Field → List ℕ
field_word group field = group_word group ++ (codes "." ++ key_of field)

abbrev pub field_changed : (was now : View) → Group → Field → List ℕ
field_changed was now group field =
    if is_told (Some was) now field
    then from_to (field_word group field) (told_said (told_by field was)) (told_said (told_by field now)) else []

abbrev pub group_changed : (was now : View) → Group → List ℕ
group_changed was now group = flat_map (field_changed was now group) (fields_of group)

abbrev pub fields_said : (was now : View) → List ℕ
fields_said was now = flat_map (group_changed was now) all_groups

-- what was sent to the host
abbrev pub replies_said : List ℕ → List ℕ
replies_said replies = if length replies == 0 then [] else codes "; replies: " ++ shown replies

-- what went out, and what changed of what can be seen
abbrev pub went_said : (was now : View) → Change → List ℕ
went_said was now change = page_said change ++ (sheets_said was.sheets now.sheets ++ bodies_said (now.step - was.step))

abbrev pub seen_said : (was now : View) → (replies : List ℕ) → List ℕ
seen_said was now replies =
    moved_said (codes "x") was.x.0 now.x.0 ++ (moved_said (codes "y") was.y.0 now.y.0 ++ (fields_said was now ++ replies_said replies))

-- All that a command did, part by part.
abbrev pub deeds : (was now : View) → Change → (replies : List ℕ) → List ℕ
deeds was now change replies = went_said was now change ++ seen_said was now replies

-- or that it did nothing
abbrev pub or_nothing : List ℕ → List ℕ
or_nothing said = if length said == 0 then codes "; changes nothing" else said

-- where it was recorded, and why it was refused
abbrev pub recorded_said : (defining : Option ℕ) → List ℕ
recorded_said None = codes "; recorded"
recorded_said (Some macro) = codes "; recorded in macro " ++ digits macro

abbrev pub refused_said : Refusal → List ℕ
refused_said refusal = codes "; refused: " ++ refusal_word refusal

-- What the step took, where a command is one step: with more, bodies ran.
abbrev pub outcome : (was now : View) → Last
outcome was now = if now.step - was.step == 1 then now.last else lasts.Nothing

-- What a command did: it was recorded, or refused, or did all this.
abbrev pub effect_said : Last → (was now : View) → Change → (replies : List ℕ) → List ℕ
effect_said (lasts.Recorded kind) was now change replies = recorded_said was.defining
effect_said (lasts.Refused kind refusal) was now change replies = refused_said refusal
effect_said last was now change replies = or_nothing (deeds was now change replies)

-- ---- the remark

-- whether commands are of one sort of bytes that are passed over
abbrev pub are_alike : (old new : Kind) → Bool
are_alike (kinds.Text one) (kinds.Text other) = true
are_alike (kinds.Foreign one) (kinds.Foreign other) = true
are_alike old new = false

-- whether a refusal is the same for one like it
abbrev pub is_again : Refusal → Refusal → (alike : Bool) → Bool
is_again refusals.HpGl refusals.HpGl alike = true
is_again refusals.NoRow refusals.NoRow alike = alike
is_again old new alike = false

-- Whether a command was passed over like the one before it.
abbrev pub is_likewise : (before last : Last) → Bool
is_likewise (lasts.Refused old why) (lasts.Refused new again) = is_again why again (are_alike old new)
is_likewise before last = false

-- A line of assembly text that stands for nothing: a command that begins there is called so, and did this.
abbrev pub remark_line : (at : ℕ) (name effect : List ℕ) → List ℕ
remark_line at name effect = codes "; at " ++ (digits at ++ (codes ": " ++ (name ++ (effect ++ 10 ∷ []))))

-- The remark on a command: none, where it was passed over like the one before it.
abbrev pub remark : (at : ℕ) (name : List ℕ) (was now : View) → Change → (replies : List ℕ) → List ℕ
remark at name was now change replies =
    if is_likewise was.last (outcome was now) then [] else remark_line at name (effect_said (outcome was now) was now change replies)
