-- Names of files by a template, in which an entry and the number of a side have their places.
use Rattle.std.specs.Prelude.{◌≡◌, ◌⊎◌, ℕ, Bool, true, false, List, ◌++◌, codes, if◌then◌else◌}
use Rattle.std.specs.Fmt.{decimal}
use Rattle.press_sink.specs.Template.{NameParts}
use Rattle.press_files.specs.declared.entry_template.EntryTemplate.{EntryTemplate}
use Rattle.press_files.specs.declared.entry_template.Pieces.{Pieces}
use Rattle.std.specs.String.{string_bytes}

-- What stands before the two places, between them and behind them, and whether the place of the number comes first.
pub record EntryParts : Type 0 where
  pub front : List ℕ
  pub middle : List ℕ
  pub back : List ℕ
  pub number_first : Bool

-- a text is these parts round a mark
abbrev pub SpellsRound : (mark text : List ℕ) → NameParts → Type 0
SpellsRound mark text parts = text ≡ parts.front ++ (mark ++ parts.back)

-- The mark has exactly one place in a text, between these parts.
pub record StandsOnce (mark text : List ℕ) (parts : NameParts) : Type 0 where
  pub spells : SpellsRound mark text parts
  pub once : (others : NameParts) → SpellsRound mark text others → others ≡ parts

-- the mark does not stand in a text
abbrev pub StandsNowhere : (mark text : List ℕ) → Type 0
StandsNowhere mark text = (parts : NameParts) → ¬ (SpellsRound mark text parts)

-- the marks of the places of an entry and of a number
abbrev pub entry_place : List ℕ
entry_place = codes "%q"

abbrev pub number_place : List ℕ
number_place = codes "%d"

-- The number has its one place before that of the entry, or behind it.
abbrev pub NumberStands : (before behind : List ℕ) → EntryParts → Type 0
NumberStands before behind parts =
    (StandsOnce number_place before (record { front = parts.front; back = parts.middle }) × StandsNowhere number_place behind
    × (parts.back ≡ behind) × (parts.number_first ≡ true))
    ⊎ (StandsNowhere number_place before × StandsOnce number_place behind (record { front = parts.middle; back = parts.back })
    × (parts.front ≡ before) × (parts.number_first ≡ false))

-- A text is a template of names of entries' sides, with these parts: the entry has exactly one place in it, and so has the number.
pub record IsEntryTemplate (text : List ℕ) (parts : EntryParts) : Type 0 where
  pub round : NameParts
  pub entry : StandsOnce entry_place text round
  pub number : NumberStands round.front round.back parts

-- a text that is no such template
abbrev pub IsNoEntryTemplate : List ℕ → Type 0
IsNoEntryTemplate text = (parts : EntryParts) → ¬ (IsEntryTemplate text parts)

-- the ID of an entry
abbrev pub entry_name : ℕ → List ℕ
entry_name entry = codes "Q" ++ decimal entry

-- The names of the sides of an entry: its ID stands in its place, and the number of the side in the other.
abbrev pub names_of : EntryParts → (entry : ℕ) → NameParts
names_of parts entry =
    if parts.number_first then record { front = parts.front; back = parts.middle ++ (entry_name entry ++ parts.back) }
    else record { front = parts.front ++ (entry_name entry ++ parts.middle); back = parts.back }

-- the parts of a template, and of the text that it is made of
abbrev pub entry_parts : EntryTemplate → EntryParts
entry_parts template = record {
  front = string_bytes template.front;
  middle = string_bytes template.middle;
  back = string_bytes template.back;
  number_first = template.number_first;
}

abbrev pub pieces_seen : Pieces → EntryParts
pieces_seen pieces = record { front = pieces.front.now; middle = pieces.middle.now; back = pieces.back.now; number_first = pieces.number_first }
