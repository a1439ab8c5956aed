-- Where the corners of each page lie, at each resolution, computed on the definitions.
use Rattle.std.proofs.Common.{◌≡◌, ℕ, ◌+◌, ◌-◌, ◌/◌, false, List, [], ◌∷◌, ◌++◌, Option, Some, None, map, refl}
use Rattle.std.specs.Option.{option_and_then}
use Rattle.std.specs.List.{flat_map}
use Rattle.press_units.specs.Position.{positions_per_dot, resolutions}
use Rattle.press_units.specs.declared.position.Resolution.{Resolution}
use Rattle.press_page.specs.PageSetup.{physical_page, logical_width, logical_length, offset, orientations, page_sizes}
use Rattle.press_page.specs.Place.{to_physical, to_frame}
use Rattle.press_page.specs.declared.media.Binding.TheVariants.{LongEdge}
use Rattle.press_page.specs.declared.media.PageSetup.{PageSetup}
use Rattle.press_page.specs.declared.media.Orientation.{Orientation}
use Rattle.press_page.specs.declared.media.PageSize.{PageSize}
use Rattle.press_page.specs.declared.media.PageSize.TheVariants.{Executive, Letter, Legal, Ledger, A4, A3}
use Rattle.press_page.specs.declared.place.Dot.{Dot}

-- the media of a page size: in each orientation at 300 dots per inch, and then in each at 600
abbrev medium : PageSize → Resolution → Orientation → PageSetup
medium size resolution orientation =
    record { size = size; orientation = orientation; duplex = false; binding = LongEdge; resolution = resolution }

abbrev media_of : PageSize → List PageSetup
media_of size = flat_map (λ resolution. map (medium size resolution) orientations) resolutions

abbrev all_media : List PageSetup
all_media = flat_map media_of page_sizes

abbrev dot : (column line : ℕ) → Dot
dot column line = record { x = column; y = line }

abbrev placed : PageSetup → Dot → Option Dot
placed page_setup frame = to_physical page_setup.orientation (physical_page page_setup) frame

abbrev framed : PageSetup → Dot → Option Dot
framed page_setup physical = to_frame page_setup.orientation (physical_page page_setup) physical

-- the frame dots at the corners of the logical page: upper left, upper right, lower left, lower right
abbrev first_column : PageSetup → ℕ
first_column page_setup = offset page_setup

abbrev last_column : PageSetup → ℕ
last_column page_setup = offset page_setup + logical_width page_setup / positions_per_dot page_setup.resolution - 1

abbrev last_line : PageSetup → ℕ
last_line page_setup = logical_length page_setup / positions_per_dot page_setup.resolution - 1

abbrev corners : PageSetup → List Dot
corners page_setup =
    dot (first_column page_setup) 0 ∷ dot (last_column page_setup) 0 ∷ dot (first_column page_setup) (last_line page_setup)
    ∷ dot (last_column page_setup) (last_line page_setup) ∷ []

-- and those left of the first column and right of the last
abbrev beside : PageSetup → List Dot
beside page_setup =
    dot (first_column page_setup - 1) 0 ∷ dot (last_column page_setup + 1) 0 ∷ dot (first_column page_setup - 1) (last_line page_setup)
    ∷ dot (last_column page_setup + 1) (last_line page_setup) ∷ []

-- and those below the last line
abbrev below : PageSetup → List Dot
below page_setup =
    dot (first_column page_setup) (last_line page_setup + 1) ∷ dot (last_column page_setup) (last_line page_setup + 1) ∷ []

-- What is seen of media: width and length of the logical page in positions, and the dots of the physical page at its corners and
-- beside them.
record Seen : Type 0 where
  width : ℕ
  length : ℕ
  at_corners : List (Option Dot)
  at_edges : List (Option Dot)

abbrev seen : PageSetup → Seen
seen page_setup = record {
  width = logical_width page_setup;
  length = logical_length page_setup;
  at_corners = map (placed page_setup) (corners page_setup);
  at_edges = map (placed page_setup) (beside page_setup);
}

abbrev lies : (width length : ℕ) (at_corners at_edges : List Dot) → Seen
lies width length at_corners at_edges =
    record { width = width; length = length; at_corners = map Some at_corners; at_edges = map Some at_edges }

-- Each is the physical dot of its frame dot and the other way round, and below the last line there is none.
there_and_back : map (λ page_setup. map (λ dot. option_and_then (framed page_setup) (placed page_setup dot)) (corners page_setup ++ beside page_setup)) all_media
    ≡ map (λ page_setup. map Some (corners page_setup ++ beside page_setup)) all_media
there_and_back = refl

none_below : map (λ page_setup. map (placed page_setup) (below page_setup)) all_media ≡ map (λ _. None ∷ None ∷ []) all_media
none_below = refl

letter-pages : map seen (media_of Letter) ≡
    lies 57600 79200 (dot 75 0 ∷ dot 2474 0 ∷ dot 75 3299 ∷ dot 2474 3299 ∷ [])
    (dot 74 0 ∷ dot 2475 0 ∷ dot 74 3299 ∷ dot 2475 3299 ∷ [])
    ∷ lies 76320 61200 (dot 0 3239 ∷ dot 0 60 ∷ dot 2549 3239 ∷ dot 2549 60 ∷ [])
    (dot 0 3240 ∷ dot 0 59 ∷ dot 2549 3240 ∷ dot 2549 59 ∷ [])
    ∷ lies 57600 79200 (dot 2474 3299 ∷ dot 75 3299 ∷ dot 2474 0 ∷ dot 75 0 ∷ [])
    (dot 2475 3299 ∷ dot 74 3299 ∷ dot 2475 0 ∷ dot 74 0 ∷ [])
    ∷ lies 76320 61200 (dot 2549 60 ∷ dot 2549 3239 ∷ dot 0 60 ∷ dot 0 3239 ∷ [])
    (dot 2549 59 ∷ dot 2549 3240 ∷ dot 0 59 ∷ dot 0 3240 ∷ [])
    ∷ lies 57600 79200 (dot 150 0 ∷ dot 4949 0 ∷ dot 150 6599 ∷ dot 4949 6599 ∷ [])
    (dot 149 0 ∷ dot 4950 0 ∷ dot 149 6599 ∷ dot 4950 6599 ∷ [])
    ∷ lies 76320 61200 (dot 0 6479 ∷ dot 0 120 ∷ dot 5099 6479 ∷ dot 5099 120 ∷ [])
    (dot 0 6480 ∷ dot 0 119 ∷ dot 5099 6480 ∷ dot 5099 119 ∷ [])
    ∷ lies 57600 79200 (dot 4949 6599 ∷ dot 150 6599 ∷ dot 4949 0 ∷ dot 150 0 ∷ [])
    (dot 4950 6599 ∷ dot 149 6599 ∷ dot 4950 0 ∷ dot 149 0 ∷ [])
    ∷ lies 76320 61200 (dot 5099 120 ∷ dot 5099 6479 ∷ dot 0 120 ∷ dot 0 6479 ∷ [])
    (dot 5099 119 ∷ dot 5099 6480 ∷ dot 0 119 ∷ dot 0 6480 ∷ []) ∷ []
letter-pages = refl

legal-pages : map seen (media_of Legal) ≡
    lies 57600 100800 (dot 75 0 ∷ dot 2474 0 ∷ dot 75 4199 ∷ dot 2474 4199 ∷ [])
    (dot 74 0 ∷ dot 2475 0 ∷ dot 74 4199 ∷ dot 2475 4199 ∷ [])
    ∷ lies 97920 61200 (dot 0 4139 ∷ dot 0 60 ∷ dot 2549 4139 ∷ dot 2549 60 ∷ [])
    (dot 0 4140 ∷ dot 0 59 ∷ dot 2549 4140 ∷ dot 2549 59 ∷ [])
    ∷ lies 57600 100800 (dot 2474 4199 ∷ dot 75 4199 ∷ dot 2474 0 ∷ dot 75 0 ∷ [])
    (dot 2475 4199 ∷ dot 74 4199 ∷ dot 2475 0 ∷ dot 74 0 ∷ [])
    ∷ lies 97920 61200 (dot 2549 60 ∷ dot 2549 4139 ∷ dot 0 60 ∷ dot 0 4139 ∷ [])
    (dot 2549 59 ∷ dot 2549 4140 ∷ dot 0 59 ∷ dot 0 4140 ∷ [])
    ∷ lies 57600 100800 (dot 150 0 ∷ dot 4949 0 ∷ dot 150 8399 ∷ dot 4949 8399 ∷ [])
    (dot 149 0 ∷ dot 4950 0 ∷ dot 149 8399 ∷ dot 4950 8399 ∷ [])
    ∷ lies 97920 61200 (dot 0 8279 ∷ dot 0 120 ∷ dot 5099 8279 ∷ dot 5099 120 ∷ [])
    (dot 0 8280 ∷ dot 0 119 ∷ dot 5099 8280 ∷ dot 5099 119 ∷ [])
    ∷ lies 57600 100800 (dot 4949 8399 ∷ dot 150 8399 ∷ dot 4949 0 ∷ dot 150 0 ∷ [])
    (dot 4950 8399 ∷ dot 149 8399 ∷ dot 4950 0 ∷ dot 149 0 ∷ [])
    ∷ lies 97920 61200 (dot 5099 120 ∷ dot 5099 8279 ∷ dot 0 120 ∷ dot 0 8279 ∷ [])
    (dot 5099 119 ∷ dot 5099 8280 ∷ dot 0 119 ∷ dot 0 8280 ∷ []) ∷ []
legal-pages = refl

a4-pages : map seen (media_of A4) ≡
    lies 56112 84168 (dot 71 0 ∷ dot 2408 0 ∷ dot 71 3506 ∷ dot 2408 3506 ∷ [])
    (dot 70 0 ∷ dot 2409 0 ∷ dot 70 3506 ∷ dot 2409 3506 ∷ [])
    ∷ lies 81336 59520 (dot 0 3447 ∷ dot 0 59 ∷ dot 2479 3447 ∷ dot 2479 59 ∷ [])
    (dot 0 3448 ∷ dot 0 58 ∷ dot 2479 3448 ∷ dot 2479 58 ∷ [])
    ∷ lies 56112 84168 (dot 2408 3506 ∷ dot 71 3506 ∷ dot 2408 0 ∷ dot 71 0 ∷ [])
    (dot 2409 3506 ∷ dot 70 3506 ∷ dot 2409 0 ∷ dot 70 0 ∷ [])
    ∷ lies 81336 59520 (dot 2479 59 ∷ dot 2479 3447 ∷ dot 0 59 ∷ dot 0 3447 ∷ [])
    (dot 2479 58 ∷ dot 2479 3448 ∷ dot 0 58 ∷ dot 0 3448 ∷ [])
    ∷ lies 56112 84168 (dot 142 0 ∷ dot 4817 0 ∷ dot 142 7013 ∷ dot 4817 7013 ∷ [])
    (dot 141 0 ∷ dot 4818 0 ∷ dot 141 7013 ∷ dot 4818 7013 ∷ [])
    ∷ lies 81336 59520 (dot 0 6895 ∷ dot 0 118 ∷ dot 4959 6895 ∷ dot 4959 118 ∷ [])
    (dot 0 6896 ∷ dot 0 117 ∷ dot 4959 6896 ∷ dot 4959 117 ∷ [])
    ∷ lies 56112 84168 (dot 4817 7013 ∷ dot 142 7013 ∷ dot 4817 0 ∷ dot 142 0 ∷ [])
    (dot 4818 7013 ∷ dot 141 7013 ∷ dot 4818 0 ∷ dot 141 0 ∷ [])
    ∷ lies 81336 59520 (dot 4959 118 ∷ dot 4959 6895 ∷ dot 0 118 ∷ dot 0 6895 ∷ [])
    (dot 4959 117 ∷ dot 4959 6896 ∷ dot 0 117 ∷ dot 0 6896 ∷ []) ∷ []
a4-pages = refl

executive-pages : map seen (media_of Executive) ≡
    lies 48600 75600 (dot 75 0 ∷ dot 2099 0 ∷ dot 75 3149 ∷ dot 2099 3149 ∷ [])
    (dot 74 0 ∷ dot 2100 0 ∷ dot 74 3149 ∷ dot 2100 3149 ∷ [])
    ∷ lies 72720 52200 (dot 0 3089 ∷ dot 0 60 ∷ dot 2174 3089 ∷ dot 2174 60 ∷ [])
    (dot 0 3090 ∷ dot 0 59 ∷ dot 2174 3090 ∷ dot 2174 59 ∷ [])
    ∷ lies 48600 75600 (dot 2099 3149 ∷ dot 75 3149 ∷ dot 2099 0 ∷ dot 75 0 ∷ [])
    (dot 2100 3149 ∷ dot 74 3149 ∷ dot 2100 0 ∷ dot 74 0 ∷ [])
    ∷ lies 72720 52200 (dot 2174 60 ∷ dot 2174 3089 ∷ dot 0 60 ∷ dot 0 3089 ∷ [])
    (dot 2174 59 ∷ dot 2174 3090 ∷ dot 0 59 ∷ dot 0 3090 ∷ [])
    ∷ lies 48600 75600 (dot 150 0 ∷ dot 4199 0 ∷ dot 150 6299 ∷ dot 4199 6299 ∷ [])
    (dot 149 0 ∷ dot 4200 0 ∷ dot 149 6299 ∷ dot 4200 6299 ∷ [])
    ∷ lies 72720 52200 (dot 0 6179 ∷ dot 0 120 ∷ dot 4349 6179 ∷ dot 4349 120 ∷ [])
    (dot 0 6180 ∷ dot 0 119 ∷ dot 4349 6180 ∷ dot 4349 119 ∷ [])
    ∷ lies 48600 75600 (dot 4199 6299 ∷ dot 150 6299 ∷ dot 4199 0 ∷ dot 150 0 ∷ [])
    (dot 4200 6299 ∷ dot 149 6299 ∷ dot 4200 0 ∷ dot 149 0 ∷ [])
    ∷ lies 72720 52200 (dot 4349 120 ∷ dot 4349 6179 ∷ dot 0 120 ∷ dot 0 6179 ∷ [])
    (dot 4349 119 ∷ dot 4349 6180 ∷ dot 0 119 ∷ dot 0 6180 ∷ []) ∷ []
executive-pages = refl

ledger-pages : map seen (media_of Ledger) ≡
    lies 75600 122400 (dot 75 0 ∷ dot 3224 0 ∷ dot 75 5099 ∷ dot 3224 5099 ∷ [])
    (dot 74 0 ∷ dot 3225 0 ∷ dot 74 5099 ∷ dot 3225 5099 ∷ [])
    ∷ lies 119520 79200 (dot 0 5039 ∷ dot 0 60 ∷ dot 3299 5039 ∷ dot 3299 60 ∷ [])
    (dot 0 5040 ∷ dot 0 59 ∷ dot 3299 5040 ∷ dot 3299 59 ∷ [])
    ∷ lies 75600 122400 (dot 3224 5099 ∷ dot 75 5099 ∷ dot 3224 0 ∷ dot 75 0 ∷ [])
    (dot 3225 5099 ∷ dot 74 5099 ∷ dot 3225 0 ∷ dot 74 0 ∷ [])
    ∷ lies 119520 79200 (dot 3299 60 ∷ dot 3299 5039 ∷ dot 0 60 ∷ dot 0 5039 ∷ [])
    (dot 3299 59 ∷ dot 3299 5040 ∷ dot 0 59 ∷ dot 0 5040 ∷ [])
    ∷ lies 75600 122400 (dot 150 0 ∷ dot 6449 0 ∷ dot 150 10199 ∷ dot 6449 10199 ∷ [])
    (dot 149 0 ∷ dot 6450 0 ∷ dot 149 10199 ∷ dot 6450 10199 ∷ [])
    ∷ lies 119520 79200 (dot 0 10079 ∷ dot 0 120 ∷ dot 6599 10079 ∷ dot 6599 120 ∷ [])
    (dot 0 10080 ∷ dot 0 119 ∷ dot 6599 10080 ∷ dot 6599 119 ∷ [])
    ∷ lies 75600 122400 (dot 6449 10199 ∷ dot 150 10199 ∷ dot 6449 0 ∷ dot 150 0 ∷ [])
    (dot 6450 10199 ∷ dot 149 10199 ∷ dot 6450 0 ∷ dot 149 0 ∷ [])
    ∷ lies 119520 79200 (dot 6599 120 ∷ dot 6599 10079 ∷ dot 0 120 ∷ dot 0 10079 ∷ [])
    (dot 6599 119 ∷ dot 6599 10080 ∷ dot 0 119 ∷ dot 0 10080 ∷ []) ∷ []
ledger-pages = refl

a3-pages : map seen (media_of A3) ≡
    lies 80760 119040 (dot 71 0 ∷ dot 3435 0 ∷ dot 71 4959 ∷ dot 3435 4959 ∷ [])
    (dot 70 0 ∷ dot 3436 0 ∷ dot 70 4959 ∷ dot 3436 4959 ∷ [])
    ∷ lies 116208 84168 (dot 0 4900 ∷ dot 0 59 ∷ dot 3506 4900 ∷ dot 3506 59 ∷ [])
    (dot 0 4901 ∷ dot 0 58 ∷ dot 3506 4901 ∷ dot 3506 58 ∷ [])
    ∷ lies 80760 119040 (dot 3435 4959 ∷ dot 71 4959 ∷ dot 3435 0 ∷ dot 71 0 ∷ [])
    (dot 3436 4959 ∷ dot 70 4959 ∷ dot 3436 0 ∷ dot 70 0 ∷ [])
    ∷ lies 116208 84168 (dot 3506 59 ∷ dot 3506 4900 ∷ dot 0 59 ∷ dot 0 4900 ∷ [])
    (dot 3506 58 ∷ dot 3506 4901 ∷ dot 0 58 ∷ dot 0 4901 ∷ [])
    ∷ lies 80760 119040 (dot 142 0 ∷ dot 6871 0 ∷ dot 142 9919 ∷ dot 6871 9919 ∷ [])
    (dot 141 0 ∷ dot 6872 0 ∷ dot 141 9919 ∷ dot 6872 9919 ∷ [])
    ∷ lies 116208 84168 (dot 0 9801 ∷ dot 0 118 ∷ dot 7013 9801 ∷ dot 7013 118 ∷ [])
    (dot 0 9802 ∷ dot 0 117 ∷ dot 7013 9802 ∷ dot 7013 117 ∷ [])
    ∷ lies 80760 119040 (dot 6871 9919 ∷ dot 142 9919 ∷ dot 6871 0 ∷ dot 142 0 ∷ [])
    (dot 6872 9919 ∷ dot 141 9919 ∷ dot 6872 0 ∷ dot 141 0 ∷ [])
    ∷ lies 116208 84168 (dot 7013 118 ∷ dot 7013 9801 ∷ dot 0 118 ∷ dot 0 9801 ∷ [])
    (dot 7013 117 ∷ dot 7013 9802 ∷ dot 0 117 ∷ dot 0 9802 ∷ []) ∷ []
a3-pages = refl
