-- Bytes and kinds of commands as texts of JSON.
use Rattle.std.specs.Prelude.{ℕ, List, encode_utf8, codes}
use Rattle.std.specs.List.{flat_map}
use Rattle.serde_json.specs.Data.{Data, string}
use Rattle.press_cmd.specs.declared.variant.Kind.{Kind}
use Rattle.press_asm.specs.Kinds.{kind_line}
use Rattle.press_table.specs.declared.refusal.Refusal.{Refusal}
use Rattle.press_table.specs.declared.refusal.Refusal.TheVariants as refusals

-- bytes as text: each byte as the character of its number
abbrev pub text_of : List ℕ → List ℕ
text_of = flat_map encode_utf8

-- the words of a reason why a command is refused
abbrev pub refusal_word : Refusal → List ℕ
refusal_word refusals.HpGl = codes "HP-GL/2"
refusal_word refusals.Overlay = codes "overlay"
refusal_word refusals.NoRow = codes "no row"
refusal_word refusals.NoSuchValue = codes "no such value"

abbrev pub refusal_data : Refusal → Data
refusal_data refusal = string (text_of (refusal_word refusal))

-- the kind of a command, as assembly text spells it
abbrev pub kind_data : Kind → Data
kind_data kind = string (text_of (kind_line kind))
