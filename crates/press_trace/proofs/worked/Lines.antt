-- The lines of traces, computed. A stream in which a macro calls itself has 23 of them, those of its commands and of the commands of the
-- two bodies. Others are of a page under an overlay, and of a row each way of four. What is told of the open page does not compute, and
-- stands beside each line.
use Prim.Native.String.{String}
use Rattle.std.proofs.Common.{◌≡◌, ℕ, List, [], ◌∷◌, ◌++◌, Option, Some, None, length, refl, ap}
use Rattle.std.specs.Fmt.{digits}
use Rattle.std.specs.Prelude.{codes}
use Rattle.hex.proofs.OnLiterals.{hex_on_literals}
use Rattle.serde_json.proofs.OnLiterals.{serde_json_on_literals}
use Rattle.serde_json.specs.Data.{Data, null, number, unsigned, string, array, object, item, no_items, no_members, put}
use Rattle.serde_json.specs.View.{items_of}
use Rattle.serde_json.specs.Written.{compact_text}
use Rattle.press_cmd.specs.Token.{Token, Control, Grouped}
use Rattle.press_sink.specs.Sending.{sheets_of, reply_bytes_of}
use Rattle.press_engine.specs.declared.machine.Machine.{Machine}
use Rattle.press_engine.specs.declared.view.View.{View}
use Rattle.press_engine.specs.Engine.{view_of}
use Rattle.press_engine.specs.Machine.{StepResult, power_on}
use Rattle.press_engine.specs.Trace.{last_machine, trace_each, trace_at, trace_in_overlay}
use Rattle.press_engine.proofs.worked.Macros.{call, called, fed_items, first, first_feed, first_items, form_feed, macro_control, macro_id, sequence, with_overlay}
use Rattle.press_trace.specs.Lines.{line_members}
use Rattle.press_trace.specs.Places.{Piece, Placed, from_on, machine_after, placed_at, placed_exit, placed_from}

-- What can be seen of a machine.
abbrev seen : Machine → View
seen machine = view_of (record { ref_ptr = (0, 0); now = machine.state.cursor.stack }) machine

-- what is told of a page that is opened, and of the open page
abbrev Told : Type 0
Told = Option Data × Option Data

abbrev quiet : Told
quiet = (None, None)

-- the line of an item behind another one, without its line feed
abbrev line : Machine → Placed → Told → List ℕ
line before placed told =
    compact_text
    (object (line_members placed.place (length (sheets_of placed.run.outputs)) (reply_bytes_of placed.run.outputs) (Some (seen before)) (seen placed.run.machine) told.0 told.1))

-- the lines of items, one after another
abbrev lines : Machine → List Placed → List Told → List (List ℕ)
lines before (placed ∷ others) (told ∷ more) = line before placed told ∷ lines placed.run.machine others more
lines before others more = []

-- a box of equal rows of the page
abbrev box_told : (x y width : ℕ) → List Data → Data
box_told x y width rows =
    object
    (put (codes "y") (number (unsigned y))
    (put (codes "x") (number (unsigned x))
    (put (codes "width") (number (unsigned width))
    (put (codes "rows") (array (items_of rows)) (put (codes "height") (number (unsigned (length rows))) no_members)))))

-- a row of eight dots, from dot 72 of line 150 on
abbrev dots_told : String → Data
dots_told row = box_told 72 150 8 (string (codes row) ∷ [])

abbrev letter_told : Data
letter_told = array (item (number (unsigned 2550)) (item (number (unsigned 3300)) no_items))

-- the pieces of the definition: ESC*p0x0Y, ESC&f1y0X, ESC*c1a1b0P, ESC*p+2X, ESC&f3X, ESC&f1X
abbrev begun : String → Token → Piece
begun text command = record { bytes = 27 ∷ codes text; command = command }

abbrev more : String → Token → Piece
more text command = record { bytes = codes text; command = command }

abbrev defining : List Piece
defining =
    begun "*p0x" (sequence "*" "p" "0" "X")
    ∷ more "0Y" (sequence "*" "p" "0" "Y")
    ∷ begun "&f1y" (macro_id "1")
    ∷ more "0X" (macro_control "0")
    ∷ begun "*c1a" (sequence "*" "c" "1" "A")
    ∷ more "1b" (sequence "*" "c" "1" "B")
    ∷ more "0P" (sequence "*" "c" "0" "P")
    ∷ begun "*p+2X" (sequence "*" "p" "+2" "X")
    ∷ begun "&f3X" call
    ∷ begun "&f1X" (macro_control "1")
    ∷ []

abbrev called_piece : Piece
called_piece = begun "&f3X" call

abbrev feed : Piece
feed = record { bytes = 12 ∷ []; command = Control 12 }

-- The items of the stream, where its call has these.
abbrev placed_with : List StepResult → List Placed
placed_with inner =
    let after = last_machine first inner in
    placed_from 0 defining power_on
    ++ ((placed_at (from_on 39 5) inner ++ placed_from 44 (feed ∷ []) after) ++ placed_exit 45 (machine_after (feed ∷ []) after))

items_of_the_call : placed_with (trace_at 2 call first) ≡ placed_with called
items_of_the_call = ap placed_with first_items

-- what is told of the page, by the steps
abbrev told_pages : List Told
told_pages =
    quiet
    ∷ quiet
    ∷ quiet
    ∷ quiet
    ∷ quiet
    ∷ quiet
    ∷ quiet
    ∷ quiet
    ∷ quiet
    ∷ quiet
    ∷ quiet
    ∷ quiet
    ∷ quiet
    ∷ (Some letter_told, Some (dots_told "10"))
    ∷ quiet
    ∷ quiet
    ∷ quiet
    ∷ quiet
    ∷ (None, Some (dots_told "14"))
    ∷ quiet
    ∷ quiet
    ∷ (None, Some null)
    ∷ quiet
    ∷ []

the_lines_of_the_calls :
    lines power_on (placed_with called) told_pages
    ≡ codes "{\"at\":0,\"bytes\":5,\"depth\":0,\"last\":\"par *pX\",\"sheets\":0,\"step\":1,\"x\":0,\"y\":900}"
    ∷ codes "{\"at\":5,\"bytes\":2,\"depth\":0,\"last\":\"par *pY\",\"sheets\":0,\"step\":2,\"x\":0,\"y\":0}"
    ∷ codes "{\"at\":7,\"bytes\":5,\"depth\":0,\"last\":\"par &fY\",\"sheets\":0,\"step\":3,\"view\":{\"macros\":{\"id\":1}},\"x\":0,\"y\":0}"
    ∷ codes "{\"at\":12,\"bytes\":2,\"depth\":0,\"last\":\"par &fX\",\"sheets\":0,\"step\":4,\"view\":{\"macros\":{\"defining\":1}},\"x\":0,\"y\":0}"
    ∷ codes "{\"at\":14,\"bytes\":5,\"depth\":0,\"last\":\"par *cA\",\"recorded\":true,\"sheets\":0,\"step\":5,\"x\":0,\"y\":0}"
    ∷ codes "{\"at\":19,\"bytes\":2,\"depth\":0,\"last\":\"par *cB\",\"recorded\":true,\"sheets\":0,\"step\":6,\"x\":0,\"y\":0}"
    ∷ codes "{\"at\":21,\"bytes\":2,\"depth\":0,\"last\":\"par *cP\",\"recorded\":true,\"sheets\":0,\"step\":7,\"x\":0,\"y\":0}"
    ∷ codes "{\"at\":23,\"bytes\":6,\"depth\":0,\"last\":\"par *pX\",\"recorded\":true,\"sheets\":0,\"step\":8,\"x\":0,\"y\":0}"
    ∷ codes "{\"at\":29,\"bytes\":5,\"depth\":0,\"last\":\"par &fX\",\"recorded\":true,\"sheets\":0,\"step\":9,\"x\":0,\"y\":0}"
    ∷ codes "{\"at\":34,\"bytes\":5,\"depth\":0,\"last\":\"par &fX\",\"sheets\":0,\"step\":10,\"view\":{\"macros\":{\"defining\":null}},\"x\":0,\"y\":0}"
    ∷ codes "{\"at\":39,\"bytes\":5,\"depth\":1,\"last\":\"par &fX\",\"sheets\":0,\"step\":11,\"x\":0,\"y\":0}"
    ∷ codes "{\"at\":39,\"bytes\":5,\"depth\":1,\"last\":\"par *cA\",\"sheets\":0,\"step\":12,\"view\":{\"drawing\":{\"width\":24}},\"x\":0,\"y\":0}"
    ∷ codes "{\"at\":39,\"bytes\":5,\"depth\":1,\"last\":\"par *cB\",\"sheets\":0,\"step\":13,\"view\":{\"drawing\":{\"height\":24}},\"x\":0,\"y\":0}"
    ∷ codes "{\"at\":39,\"bytes\":5,\"depth\":1,\"last\":\"par *cP\",\"opened\":[2550,3300],\"page\":{\"height\":1,\"rows\":[\"10\"],\"width\":8,\"x\":72,\"y\":150},\"sheets\":0,\"step\":14,\"view\":{\"page\":{\"marked\":true}},\"x\":0,\"y\":0}"
    ∷ codes "{\"at\":39,\"bytes\":5,\"depth\":1,\"last\":\"par *pX\",\"sheets\":0,\"step\":15,\"x\":48,\"y\":0}"
    ∷ codes "{\"at\":39,\"bytes\":5,\"depth\":2,\"last\":\"par &fX\",\"sheets\":0,\"step\":16,\"x\":48,\"y\":0}"
    ∷ codes "{\"at\":39,\"bytes\":5,\"depth\":2,\"last\":\"par *cA\",\"sheets\":0,\"step\":17,\"x\":48,\"y\":0}"
    ∷ codes "{\"at\":39,\"bytes\":5,\"depth\":2,\"last\":\"par *cB\",\"sheets\":0,\"step\":18,\"x\":48,\"y\":0}"
    ∷ codes "{\"at\":39,\"bytes\":5,\"depth\":2,\"last\":\"par *cP\",\"page\":{\"height\":1,\"rows\":[\"14\"],\"width\":8,\"x\":72,\"y\":150},\"sheets\":0,\"step\":19,\"x\":48,\"y\":0}"
    ∷ codes "{\"at\":39,\"bytes\":5,\"depth\":2,\"last\":\"par *pX\",\"sheets\":0,\"step\":20,\"x\":96,\"y\":0}"
    ∷ codes "{\"at\":39,\"bytes\":5,\"depth\":0,\"last\":\"par &fX\",\"sheets\":0,\"step\":21,\"view\":{\"drawing\":{\"height\":0,\"width\":0}},\"x\":96,\"y\":0}"
    ∷ codes "{\"at\":44,\"bytes\":1,\"delivered\":1,\"depth\":0,\"last\":\"ctl 0C\",\"page\":null,\"sheets\":1,\"step\":22,\"view\":{\"page\":{\"marked\":false},\"settings\":{\"sheets_of_job\":1}},\"x\":96,\"y\":900}"
    ∷ codes "{\"at\":45,\"bytes\":0,\"depth\":0,\"last\":\"uel\",\"sheets\":1,\"step\":23,\"view\":{\"macros\":{\"id\":0}},\"x\":0,\"y\":900}"
    ∷ []
unfolding trace_each trace_at trace_in_overlay digits serde_json_on_literals hex_on_literals
the_lines_of_the_calls = refl

-- ---- a page under an overlay: ESC&f2y0X, ESC*c4a1b0P, FF, ESC&f1X, ESC&f4X, and FF

abbrev overlay_defined : List Piece
overlay_defined =
    begun "&f2y" (macro_id "2")
    ∷ more "0X" (macro_control "0")
    ∷ begun "*c4a" (sequence "*" "c" "4" "A")
    ∷ more "1b" (sequence "*" "c" "1" "B")
    ∷ more "0P" (sequence "*" "c" "0" "P")
    ∷ feed
    ∷ begun "&f1X" (macro_control "1")
    ∷ begun "&f4X" (macro_control "4")
    ∷ []

-- The items of the stream, where its form feed has these.
abbrev overlaid_with : List StepResult → List Placed
overlaid_with inner =
    placed_from 0 overlay_defined power_on
    ++ (placed_at (from_on 27 1) inner ++ placed_exit 28 (last_machine with_overlay inner))

items_of_the_feed : overlaid_with (trace_at 2 form_feed with_overlay) ≡ overlaid_with (fed_items with_overlay)
items_of_the_feed = ap overlaid_with first_feed

abbrev told_overlay : List Told
told_overlay =
    quiet
    ∷ quiet
    ∷ quiet
    ∷ quiet
    ∷ quiet
    ∷ quiet
    ∷ quiet
    ∷ quiet
    ∷ quiet
    ∷ quiet
    ∷ quiet
    ∷ (Some letter_told, Some (box_told 72 187 8 (string (codes "1E") ∷ [])))
    ∷ (None, Some null)
    ∷ quiet
    ∷ []

the_lines_of_the_overlay :
    lines power_on (overlaid_with (fed_items with_overlay)) told_overlay
    ≡ codes "{\"at\":0,\"bytes\":5,\"depth\":0,\"last\":\"par &fY\",\"sheets\":0,\"step\":1,\"view\":{\"macros\":{\"id\":2}},\"x\":0,\"y\":900}"
    ∷ codes "{\"at\":5,\"bytes\":2,\"depth\":0,\"last\":\"par &fX\",\"sheets\":0,\"step\":2,\"view\":{\"macros\":{\"defining\":2}},\"x\":0,\"y\":900}"
    ∷ codes "{\"at\":7,\"bytes\":5,\"depth\":0,\"last\":\"par *cA\",\"recorded\":true,\"sheets\":0,\"step\":3,\"x\":0,\"y\":900}"
    ∷ codes "{\"at\":12,\"bytes\":2,\"depth\":0,\"last\":\"par *cB\",\"recorded\":true,\"sheets\":0,\"step\":4,\"x\":0,\"y\":900}"
    ∷ codes "{\"at\":14,\"bytes\":2,\"depth\":0,\"last\":\"par *cP\",\"recorded\":true,\"sheets\":0,\"step\":5,\"x\":0,\"y\":900}"
    ∷ codes "{\"at\":16,\"bytes\":1,\"depth\":0,\"last\":\"ctl 0C\",\"recorded\":true,\"sheets\":0,\"step\":6,\"x\":0,\"y\":900}"
    ∷ codes "{\"at\":17,\"bytes\":5,\"depth\":0,\"last\":\"par &fX\",\"sheets\":0,\"step\":7,\"view\":{\"macros\":{\"defining\":null}},\"x\":0,\"y\":900}"
    ∷ codes "{\"at\":22,\"bytes\":5,\"depth\":0,\"last\":\"par &fX\",\"sheets\":0,\"step\":8,\"view\":{\"macros\":{\"overlay\":2}},\"x\":0,\"y\":900}"
    ∷ codes "{\"at\":27,\"bytes\":1,\"depth\":1,\"last\":\"ctl 0C\",\"sheets\":0,\"step\":9,\"view\":{\"macros\":{\"id\":0}},\"x\":0,\"y\":900}"
    ∷ codes "{\"at\":27,\"bytes\":1,\"depth\":1,\"last\":\"par *cA\",\"sheets\":0,\"step\":10,\"view\":{\"drawing\":{\"width\":96}},\"x\":0,\"y\":900}"
    ∷ codes "{\"at\":27,\"bytes\":1,\"depth\":1,\"last\":\"par *cB\",\"sheets\":0,\"step\":11,\"view\":{\"drawing\":{\"height\":24}},\"x\":0,\"y\":900}"
    ∷ codes "{\"at\":27,\"bytes\":1,\"depth\":1,\"last\":\"par *cP\",\"opened\":[2550,3300],\"page\":{\"height\":1,\"rows\":[\"1E\"],\"width\":8,\"x\":72,\"y\":187},\"sheets\":0,\"step\":12,\"view\":{\"page\":{\"marked\":true}},\"x\":0,\"y\":900}"
    ∷ codes "{\"at\":27,\"bytes\":1,\"delivered\":1,\"depth\":0,\"last\":\"ctl 0C\",\"page\":null,\"refused\":\"overlay\",\"sheets\":1,\"step\":13,\"view\":{\"drawing\":{\"height\":0,\"width\":0},\"macros\":{\"id\":2},\"page\":{\"marked\":false},\"settings\":{\"sheets_of_job\":1}},\"x\":0,\"y\":900}"
    ∷ codes "{\"at\":28,\"bytes\":0,\"depth\":0,\"last\":\"uel\",\"sheets\":1,\"step\":14,\"view\":{\"macros\":{\"id\":0,\"overlay\":null}},\"x\":0,\"y\":900}"
    ∷ []
unfolding trace_each trace_at trace_in_overlay digits serde_json_on_literals hex_on_literals
the_lines_of_the_overlay = refl

-- ---- a row of two dots of 75 to the inch, each way of four: ESC&l#O, ESC*r0A and ESC*b1W with one byte

abbrev row_piece : Piece
row_piece = record { bytes = 27 ∷ codes "*b1W" ++ (192 ∷ []); command = Grouped 42 98 (codes "1") 87 (192 ∷ []) }

abbrev row_of : (orientation : String) → List Piece
row_of orientation =
    record { bytes = 27 ∷ codes "&l" ++ (codes orientation ++ codes "O"); command = sequence "&" "l" orientation "O" }
    ∷ begun "*r0A" (sequence "*" "r" "0" "A")
    ∷ row_piece
    ∷ []

-- the lines of the row, where this is told of the page that it opens
abbrev row_lines : (orientation : String) → Data → List (List ℕ)
row_lines orientation told =
    lines power_on (placed_from 0 (row_of orientation) power_on) (quiet ∷ quiet ∷ (Some letter_told, Some told) ∷ [])

upright_row :
    row_lines "0" (box_told 72 187 16 (string (codes "1FE0") ∷ string (codes "1FE0") ∷ string (codes "1FE0") ∷ string (codes "1FE0") ∷ []))
    ≡ codes "{\"at\":0,\"bytes\":5,\"depth\":0,\"last\":\"par &lO\",\"sheets\":0,\"step\":1,\"x\":0,\"y\":900}"
    ∷ codes "{\"at\":5,\"bytes\":5,\"depth\":0,\"last\":\"par *rA\",\"sheets\":0,\"step\":2,\"view\":{\"raster\":{\"left\":0,\"rows\":0}},\"x\":0,\"y\":900}"
    ∷ codes "{\"at\":10,\"bytes\":6,\"depth\":0,\"last\":\"par *bW\",\"opened\":[2550,3300],\"page\":{\"height\":4,\"rows\":[\"1FE0\",\"1FE0\",\"1FE0\",\"1FE0\"],\"width\":16,\"x\":72,\"y\":187},\"sheets\":0,\"step\":3,\"view\":{\"page\":{\"marked\":true},\"raster\":{\"rows\":1}},\"x\":0,\"y\":996}"
    ∷ []
unfolding trace_at digits serde_json_on_literals hex_on_literals
upright_row = refl

landscape_row :
    row_lines "1" (box_told 184 3232 8
    (string (codes "1E") ∷ string (codes "1E") ∷ string (codes "1E") ∷ string (codes "1E") ∷ string (codes "1E") ∷ string (codes "1E")
    ∷ string (codes "1E") ∷ string (codes "1E") ∷ []))
    ≡ codes "{\"at\":0,\"bytes\":5,\"depth\":0,\"last\":\"par &lO\",\"sheets\":0,\"step\":1,\"view\":{\"margins\":{\"right\":76320,\"text_length\":54000},\"page\":{\"orientation\":1}},\"x\":0,\"y\":900}"
    ∷ codes "{\"at\":5,\"bytes\":5,\"depth\":0,\"last\":\"par *rA\",\"sheets\":0,\"step\":2,\"view\":{\"raster\":{\"left\":0,\"rows\":0}},\"x\":0,\"y\":900}"
    ∷ codes "{\"at\":10,\"bytes\":6,\"depth\":0,\"last\":\"par *bW\",\"opened\":[2550,3300],\"page\":{\"height\":8,\"rows\":[\"1E\",\"1E\",\"1E\",\"1E\",\"1E\",\"1E\",\"1E\",\"1E\"],\"width\":8,\"x\":184,\"y\":3232},\"sheets\":0,\"step\":3,\"view\":{\"page\":{\"marked\":true},\"raster\":{\"rows\":1}},\"x\":0,\"y\":996}"
    ∷ []
unfolding trace_at digits serde_json_on_literals hex_on_literals
landscape_row = refl

reverse_portrait_row :
    row_lines "2" (box_told 2464 3109 16 (string (codes "1FE0") ∷ string (codes "1FE0") ∷ string (codes "1FE0") ∷ string (codes "1FE0") ∷ []))
    ≡ codes "{\"at\":0,\"bytes\":5,\"depth\":0,\"last\":\"par &lO\",\"sheets\":0,\"step\":1,\"view\":{\"page\":{\"orientation\":2}},\"x\":0,\"y\":900}"
    ∷ codes "{\"at\":5,\"bytes\":5,\"depth\":0,\"last\":\"par *rA\",\"sheets\":0,\"step\":2,\"view\":{\"raster\":{\"left\":0,\"rows\":0}},\"x\":0,\"y\":900}"
    ∷ codes "{\"at\":10,\"bytes\":6,\"depth\":0,\"last\":\"par *bW\",\"opened\":[2550,3300],\"page\":{\"height\":4,\"rows\":[\"1FE0\",\"1FE0\",\"1FE0\",\"1FE0\"],\"width\":16,\"x\":2464,\"y\":3109},\"sheets\":0,\"step\":3,\"view\":{\"page\":{\"marked\":true},\"raster\":{\"rows\":1}},\"x\":0,\"y\":996}"
    ∷ []
unfolding trace_at digits serde_json_on_literals hex_on_literals
reverse_portrait_row = refl

reverse_landscape_row :
    row_lines "3" (box_told 2352 60 16
    (string (codes "01E0") ∷ string (codes "01E0") ∷ string (codes "01E0") ∷ string (codes "01E0") ∷ string (codes "01E0")
    ∷ string (codes "01E0") ∷ string (codes "01E0") ∷ string (codes "01E0") ∷ []))
    ≡ codes "{\"at\":0,\"bytes\":5,\"depth\":0,\"last\":\"par &lO\",\"sheets\":0,\"step\":1,\"view\":{\"margins\":{\"right\":76320,\"text_length\":54000},\"page\":{\"orientation\":3}},\"x\":0,\"y\":900}"
    ∷ codes "{\"at\":5,\"bytes\":5,\"depth\":0,\"last\":\"par *rA\",\"sheets\":0,\"step\":2,\"view\":{\"raster\":{\"left\":0,\"rows\":0}},\"x\":0,\"y\":900}"
    ∷ codes "{\"at\":10,\"bytes\":6,\"depth\":0,\"last\":\"par *bW\",\"opened\":[2550,3300],\"page\":{\"height\":8,\"rows\":[\"01E0\",\"01E0\",\"01E0\",\"01E0\",\"01E0\",\"01E0\",\"01E0\",\"01E0\"],\"width\":16,\"x\":2352,\"y\":60},\"sheets\":0,\"step\":3,\"view\":{\"page\":{\"marked\":true},\"raster\":{\"rows\":1}},\"x\":0,\"y\":996}"
    ∷ []
unfolding trace_at digits serde_json_on_literals hex_on_literals
reverse_landscape_row = refl
