-- Members of an object of which each is there or not, and their text.
use Rattle.std.specs.Prelude.{ℕ, Bool, true, List, [], ◌∷◌, ◌++◌, Option, None, Some}
use Rattle.json.specs.Print.{quoted}
use Rattle.serde_json.specs.Data.{Data, Members, no_members, member}
use Rattle.serde_json.specs.Written.{comma_if, compact_text}

-- a member that may be there, in front of others; and those of a list that are there
abbrev pub member_if : List ℕ → Option Data → Members → Members
member_if key None others = others
member_if key (Some value) others = member key value others

abbrev pub members_of : List (List ℕ × Option Data) → Members
members_of [] = no_members
members_of (slot ∷ slots) = member_if slot.0 slot.1 (members_of slots)

-- the key of a member, behind a comma where something stands before it, and its colon
abbrev pub key_text : (later : Bool) → List ℕ → List ℕ
key_text later key = comma_if later ++ (quoted key ++ 58 ∷ [])

-- the text of a member that may be there, and whether something stands behind it
abbrev pub member_text : (later : Bool) → List ℕ → Option Data → List ℕ
member_text later key None = []
member_text later key (Some value) = key_text later key ++ compact_text value

abbrev pub is_later : Bool → Option Data → Bool
is_later later None = later
is_later later (Some value) = true

-- The text of those that are there, each behind a comma; and one behind the other.
abbrev pub texts_behind : List (List ℕ × Option Data) → List ℕ
texts_behind [] = []
texts_behind (slot ∷ slots) = member_text true slot.0 slot.1 ++ texts_behind slots

abbrev pub texts_of : (later : Bool) → List (List ℕ × Option Data) → List ℕ
texts_of later [] = []
texts_of later (slot ∷ slots) = member_text later slot.0 slot.1 ++ texts_of (is_later later slot.1) slots
