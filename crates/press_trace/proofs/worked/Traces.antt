-- What lines say of small pages and steps, and where the commands of a small stream stand, computed.
use Rattle.std.proofs.Common.{◌≡◌, Bor, List, [], ◌∷◌, ◌++◌, Some, None, map, refl}
use Rattle.std.specs.Fmt.{digits}
use Rattle.std.specs.Prelude.{codes}
use Rattle.hex.proofs.OnLiterals.{hex_on_literals}
use Rattle.serde_json.proofs.OnLiterals.{serde_json_on_literals}
use Rattle.serde_json.specs.Data.{object, no_members}
use Rattle.serde_json.specs.Written.{compact_text}
use Rattle.press_bits.specs.Page.{Page, blank}
use Rattle.press_bits.specs.Patches.{Patch, laid_over}
use Rattle.press_cmd.specs.Token.{Escape, Grouped, Control}
use Rattle.press_cursor.specs.declared.stack.CursorPosition.{CursorPosition}
use Rattle.press_engine.specs.Engine.{view_of}
use Rattle.press_engine.specs.Machine.{power_on}
use Rattle.press_engine.specs.Trace.{trace_at}
use Rattle.press_trace.specs.Lines.{where_members}
use Rattle.press_trace.specs.Places.{Piece, Placed, from_on, machine_after, placed_exit, placed_from}
use Rattle.press_trace.specs.Rebuilt.{Stays, Closes, Lays, Opens, page_after_all, patch_told}

-- three dots on each of two lines, and four at the right side of a page of 20 dots
abbrev box : Patch
box = record { region = record { top = 1; bottom = 3; left = 0; right = 1 }; rows = (28 ∷ []) ∷ (28 ∷ []) ∷ [] }

abbrev edge : Patch
edge = record { region = record { top = 1; bottom = 2; left = 2; right = 3 }; rows = (240 ∷ []) ∷ [] }

box_is_told : compact_text (patch_told 20 box) ≡ codes "{\"height\":2,\"rows\":[\"1C\",\"1C\"],\"width\":8,\"x\":0,\"y\":1}"
unfolding digits serde_json_on_literals hex_on_literals
box_is_told = refl

edge_is_told : compact_text (patch_told 20 edge) ≡ codes "{\"height\":1,\"rows\":[\"F0\"],\"width\":4,\"x\":16,\"y\":1}"
unfolding digits serde_json_on_literals hex_on_literals
edge_is_told = refl

-- a white page that is opened with the first, and the second laid over it
abbrev both_laid : Page
both_laid = laid_over (laid_over (blank 20 4) box) edge

both_are_laid : page_after_all None (Opens 20 4 (Some box) ∷ Stays ∷ Lays edge ∷ []) ≡ Some both_laid
both_are_laid = refl

-- none is open once it has closed
closed_page : page_after_all None (Opens 20 4 (Some box) ∷ Closes ∷ []) ≡ None
closed_page = refl

-- ESC E, ESC*p10x20Y and a form feed
abbrev reset : Piece
reset = record { bytes = 27 ∷ codes "E"; command = Escape 69 }

abbrev across : Piece
across = record { bytes = 27 ∷ codes "*p10x"; command = Grouped 42 112 (codes "10") 88 [] }

abbrev down : Piece
down = record { bytes = codes "20Y"; command = Grouped 42 112 (codes "20") 89 [] }

abbrev feed : Piece
feed = record { bytes = 12 ∷ []; command = Control 12 }

abbrev pieces : List Piece
pieces = reset ∷ across ∷ down ∷ feed ∷ []

places : map (λ (one : Placed). one.place) (placed_from 0 pieces power_on ++ placed_exit 12 (machine_after pieces power_on))
    ≡ from_on 0 2 ∷ from_on 2 6 ∷ from_on 8 3 ∷ from_on 11 1 ∷ from_on 12 0 ∷ []
unfolding trace_at
places = refl

-- behind the moves the cursor is 10 and 20 units of 1/300 inch away
moved : (stack : Bor (List CursorPosition))
    → compact_text (object (where_members (from_on 8 3) (view_of stack (machine_after (reset ∷ across ∷ down ∷ []) power_on)) no_members))
    ≡ codes "{\"at\":8,\"bytes\":3,\"depth\":0,\"sheets\":0,\"step\":3,\"x\":240,\"y\":480}"
unfolding trace_at digits serde_json_on_literals
moved stack = refl
