-- What is told of the open page.
use Rattle.std.specs.Prelude.{◌≡◌, ◌⊎◌, ◌-◌, ◌*◌, ℕ, List, [], ◌∷◌, map, min, take, drop, Option, None, Some, Bool, true, false, codes, ⊤}
use Rattle.std.specs.List.{range_with_len}
use Rattle.hex.specs.Hex.{encode_upper}
use Rattle.serde_json.specs.Data.{Data, null, number, unsigned, string, array, object, item, no_items, no_members, put}
use Rattle.serde_json.specs.View.{items_of}
use Rattle.press_bits.specs.Page.{Page, HasNoDotOutside, blank}
use Rattle.press_bits.specs.Patches.{ChangedIn, LiesOn}
use Rattle.press_bits.specs.declared.region.Region.{Region}
use Rattle.press_canvas.specs.Changes.{AgreeBesideLines}
use Rattle.press_pbm.specs.Spelling.{line_bytes}
use Rattle.press_trace.specs.declared.page.Change.{Change}
use Rattle.press_trace.specs.declared.page.Change.TheVariants as changes
use Rattle.press_trace.specs.declared.touched.Touched.{Touched}
use Rattle.press_trace.specs.declared.touched.Touched.TheVariants.{Nothing, Lines, Whole}

-- the bytes of a line of a region, and its lines from the top
abbrev pub row_in : Region → (line : List ℕ) → List ℕ
row_in region line = take (region.right - region.left) (drop region.left line)

abbrev pub row_data : Page → Region → (y : ℕ) → Data
row_data page region y = string (encode_upper (row_in region (line_bytes page y)))

abbrev pub rows_of : Page → Region → List Data
rows_of page region = map (row_data page region) (range_with_len region.top (region.bottom - region.top))

-- A region of a page: where it lies and how large it is, in dots, and its rows, in hexadecimal.
abbrev pub patch_data : Page → Region → Data
patch_data page region = object (
    put (codes "y") (number (unsigned region.top))
    (put (codes "x") (number (unsigned (8 * region.left)))
    (put (codes "width") (number (unsigned (min (8 * region.right) page.width - 8 * region.left)))
    (put (codes "rows") (array (items_of (rows_of page region)))
    (put (codes "height") (number (unsigned (region.bottom - region.top))) no_members)))))

-- its members in the order of their keys
abbrev pub patch_slots : Page → Region → List (List ℕ × Option Data)
patch_slots page region =
    (codes "height", Some (number (unsigned (region.bottom - region.top)))) ∷ (codes "rows", Some (array (items_of (rows_of page region))))
    ∷ (codes "width", Some (number (unsigned (min (8 * region.right) page.width - 8 * region.left)))) ∷ (codes "x", Some (number (unsigned (8 * region.left))))
    ∷ (codes "y", Some (number (unsigned region.top))) ∷ []

-- the size of a page
abbrev pub size_data : Page → Data
size_data page = array (item (number (unsigned page.width)) (item (number (unsigned page.height)) no_items))

-- what is told of a page that opened, and of what changed of it
abbrev pub opened_data : (opened : Bool) → Option Page → Option Data
opened_data false page = None
opened_data true None = None
opened_data true (Some page) = Some (size_data page)

abbrev pub change_data : Change → Option Page → Option Data
change_data changes.Nothing page = None
change_data changes.Closed page = Some null
change_data (changes.Patch region) None = None
change_data (changes.Patch region) (Some page) = Some (patch_data page region)

-- the region that is told lies on the page
abbrev pub LiesIn : Change → Option Page → Type 0
LiesIn (changes.Patch region) (Some page) = LiesOn page region
LiesIn change page = ⊤

-- What changed from a page to a later one of its size: nothing, where they are equal; else a region outside of which they agree, and
-- no dot of the later one lies beyond its sides.
abbrev pub Follows : (before after : Page) → (told : Option Data) → Type 0
Follows before after told =
    ((before ≡ after) × (told ≡ None))
    ⊎ ((region : Region) × ChangedIn before after region × HasNoDotOutside after
    × (told ≡ Some (patch_data after region)))

-- The page on which a change is told: the one before, of the size of the one after; or a white one, of which the size is told.
abbrev pub StartsFrom : Option Page → (after from : Page) → (opened : Option Data) → Type 0
StartsFrom before after from opened =
    (after.width ≡ from.width) × (after.height ≡ from.height)
    × (((before ≡ Some from) × (opened ≡ None))
    ⊎ ((from ≡ blank after.width after.height) × (opened ≡ Some (size_data after))))

-- What is told of the open page: nothing where there is none and was none; null where it closed; else what changed, on the page
-- before or on a white one.
abbrev pub IsPageTold : (before after : Option Page) → (opened told : Option Data) → Type 0
IsPageTold None None opened told = (opened ≡ None) × (told ≡ None)
IsPageTold (Some before) None opened told = (opened ≡ None) × (told ≡ Some null)
IsPageTold before (Some after) opened told = (from : Page) × StartsFrom before after from opened × Follows from after told

-- What a step that touched this leaves of the open page: all, where it touched nothing; where it touched lines of the frame, a page that was
-- open before it and is open behind it agrees beside them.
abbrev pub KeepsRest : Touched → (before after : Option Page) → Type 0
KeepsRest Nothing before after = before ≡ after
KeepsRest (Lines orientation first end) before after =
    (page next : Page) → before ≡ Some page → after ≡ Some next → AgreeBesideLines orientation first end page next
KeepsRest Whole before after = ⊤
