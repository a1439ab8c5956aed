-- The members of a ticket's object: its keys, and the value that each may have.
use Rattle.std.specs.Prelude.{ℕ, ◌&&◌, ℤ, pos, List, [], ◌∷◌, length, Bool, nat_le, codes, bytes_eq, if◌then◌else◌, Option, Some, None, option_and_then, option_map}
use Rattle.std.specs.List.{find, list_all, list_any}
use Rattle.std.specs.Ordering.{int_eq, nat_cmp, match_ordering}
use Rattle.std.specs.Cmp.Lexicographic.{slice_cmp}
use Rattle.press_units.specs.Ascii.{is_printable}
use Rattle.press_units.specs.Position.{dots_per_inch, resolutions}
use Rattle.press_units.specs.declared.position.Resolution.{Resolution}
use Rattle.serde_json.specs.Data.{Data, Items, no_items, item, Members, no_members, member}
use Rattle.serde_json.specs.Find.{as_integer, as_number, as_array, as_str}
use Rattle.press_ticket.specs.declared.media.Media.{Media}
use Rattle.press_ticket.specs.declared.media.Sides.{Sides}
use Rattle.press_ticket.specs.Names.{media_named, sides_named}

-- the keys of a ticket: the required ones, and then the optional ones
abbrev pub ticket_keys : List (List ℕ)
ticket_keys =
    codes "Version" ∷ codes "Type" ∷ codes "JobID" ∷ codes "NPage" ∷ codes "Amount" ∷ codes "RunList" ∷ codes "Media"
    ∷ codes "Sides" ∷ codes "Collate" ∷ codes "Resolution" ∷ []

abbrev pub is_ticket_key : List ℕ → Bool
is_ticket_key key = list_any (bytes_eq key) ticket_keys

-- the lesser of a key and another, if there is one, in byte order
abbrev pub lesser : List ℕ → Option (List ℕ) → List ℕ
lesser key None = key
lesser key (Some other) = match_ordering (slice_cmp nat_cmp key other) key key other

-- the least key that no ticket has
abbrev pub least_unknown : Members → Option (List ℕ)
least_unknown no_members = None
least_unknown (member key value members) =
    if is_ticket_key key then least_unknown members else Some (lesser key (least_unknown members))

-- a whole number: one that is written without point and exponent, and fits 64 bits
abbrev pub as_whole : Data → Option ℤ
as_whole value = option_and_then as_integer (as_number value)

-- the version that this profile takes
abbrev pub as_version : Data → Option (List ℕ)
as_version value = option_and_then (λ text. if bytes_eq text (codes "1.5") then Some text else None) (as_str value)

-- 1 to 63 printable bytes
abbrev pub is_job_id : List ℕ → Bool
is_job_id text = nat_le 1 (length text) && nat_le (length text) 63 && list_all is_printable text

abbrev pub as_job_id : Data → Option (List ℕ)
as_job_id value = option_and_then (λ text. if is_job_id text then Some text else None) (as_str value)

abbrev pub pair_of : Items → Option (ℤ × ℤ)
pair_of no_items = None
pair_of (item a no_items) = None
pair_of (item a (item b no_items)) = option_and_then (λ first. option_map (λ last. (first, last)) (as_whole b)) (as_whole a)
pair_of (item a (item b (item c more))) = None

-- two whole numbers
abbrev pub as_pair : Data → Option (ℤ × ℤ)
as_pair value = option_and_then pair_of (as_array value)

abbrev pub pairs_of : Items → Option (List (ℤ × ℤ))
pairs_of no_items = Some []
pairs_of (item value values) = option_and_then (λ pair. option_map (λ pairs. pair ∷ pairs) (pairs_of values)) (as_pair value)

abbrev pub if_count_fits : List (ℤ × ℤ) → Option (List (ℤ × ℤ))
if_count_fits pairs = if nat_le 1 (length pairs) && nat_le (length pairs) 64 then Some pairs else None

-- 1 to 64 pairs of whole numbers
abbrev pub as_run_list : Data → Option (List (ℤ × ℤ))
as_run_list value = option_and_then if_count_fits (option_and_then pairs_of (as_array value))

abbrev pub as_media : Data → Option Media
as_media value = option_and_then media_named (as_str value)

abbrev pub as_sides : Data → Option Sides
as_sides value = option_and_then sides_named (as_str value)

-- the resolution of so many dots per inch
abbrev pub resolution_of : ℤ → Option Resolution
resolution_of number = find (λ resolution. int_eq (pos (dots_per_inch resolution)) number) resolutions

abbrev pub as_resolution : Data → Option Resolution
as_resolution value = option_and_then resolution_of (as_whole value)
