-- What a field tells, and as which value of JSON.
use Rattle.std.specs.Prelude.{ℕ, Bool, true, false, ◌&&◌, nat_eq, map, Option, Some, None}
use Rattle.std.specs.Cmp.Lexicographic.{pointwise}
use Rattle.std.specs.Ordering.{int_eq}
use Rattle.serde_json.specs.Data.{Data, number, unsigned, boolean, null, array, item, no_items}
use Rattle.serde_json.specs.Find.{of_integer}
use Rattle.serde_json.specs.View.{items_of}
use Rattle.press_cursor.specs.declared.stack.CursorPosition.{CursorPosition}
use Rattle.press_trace.specs.declared.told.Told.{Told}
use Rattle.press_trace.specs.declared.told.Told.TheVariants.{Number, Flag, Places, Nothing}

-- whether two flags and two places are the same
abbrev pub is_same_flag : Bool → Bool → Bool
is_same_flag true other = other
is_same_flag false true = false
is_same_flag false false = true

abbrev pub is_same_place : CursorPosition → CursorPosition → Bool
is_same_place one other = nat_eq one.x other.x && int_eq one.y other.y

-- whether the same is told
abbrev pub is_same : Told → Told → Bool
is_same (Number one) (Number other) = nat_eq one other
is_same (Flag one) (Flag other) = is_same_flag one other
is_same (Places ones) (Places others) = pointwise is_same_place ones.now others.now
is_same Nothing Nothing = true
is_same one other = false

-- a number, where there is one
abbrev pub number_in : Option ℕ → Told
number_in None = Nothing
number_in (Some n) = Number n

-- a place as its two distances, in 1/7200 inch: from the left edge of the logical page, and below the top margin
abbrev pub place_data : CursorPosition → Data
place_data place = array (item (number (unsigned place.x)) (item (number (of_integer place.y)) no_items))

-- What is told, as a value of JSON.
abbrev pub data_of : Told → Data
data_of (Number n) = number (unsigned n)
data_of (Flag flag) = boolean flag
data_of (Places places) = array (items_of (map place_data places.now))
data_of Nothing = null
