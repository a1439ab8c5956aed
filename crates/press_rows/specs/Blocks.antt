-- Adaptive compression (PCL 5 Printer Language Technical Reference Manual, Raster Graphics, Set Compression Method command,
-- method 5): the data is a row of blocks, each a command byte and a count of two bytes, most significant byte first.
use Rattle.std.specs.Prelude.{ℕ, zero, suc, ◌+◌, ◌*◌, ◌==◌, Bool, true, false, if◌then◌else◌, List, [], ◌∷◌, ◌++◌, length, filter, is_some, take, replicate, Option, Some, None}
use Rattle.press_rows.specs.declared.blocks.Run.{Run}
use Rattle.press_rows.specs.declared.blocks.Run.TheVariants.{WhiteSeed, Rows}
use Rattle.press_rows.specs.declared.compression.Method.{Method}
use Rattle.press_rows.specs.declared.compression.Method.TheVariants.{Unencoded, DeltaRow}
use Rattle.press_rows.specs.Methods.{methods, method_at}
use Rattle.press_rows.specs.Row.{raster_row}

-- What adaptive data stands for, item by item: a row by one of the four methods, with its data; or, in place of a row, that
-- the seed row becomes white.
abbrev pub Item : Type 0
Item = Option (Method × List ℕ)

-- So many rows of no data: empty ones by method 0, the seed row again by method 3. Where none is asked for, the seed row
-- becomes white (this profile).
abbrev pub rows_of_no_data : Method → ℕ → List Item
rows_of_no_data method count = if count == 0 then None ∷ [] else replicate count (Some (method, []))

-- What a block stands for, by its command, its count and the bytes after both, if its command is one: 0 to 3 a row by that
-- method, 4 empty rows, 5 the seed row again. Of cut data the bytes that are there count (this profile).
abbrev pub block : Option Method → (command count : ℕ) → List ℕ → Option (List Item)
block (Some method) command count bytes = Some (Some (method, take count bytes) ∷ [])
block None command count bytes =
    if command == 4 then Some (rows_of_no_data Unencoded count)
    else (if command == 5 then Some (rows_of_no_data DeltaRow count) else None)

-- how many bytes of data it has
abbrev pub block_len : Option Method → (count : ℕ) → ℕ
block_len (Some method) count = count
block_len None count = 0

-- a command that is none ends the data (this profile)
abbrev pub and_then_items : Option (List Item) → List Item → List Item
and_then_items None others = []
and_then_items (Some items) others = items ++ others

-- The items of adaptive data, but its first k bytes, which belong to the block before. A header that is cut stands for nothing
-- (this profile).
unfoldable pub items : ℕ → List ℕ → List Item
items k [] = []
items (suc k) (byte ∷ bytes) = items k bytes
items zero (command ∷ []) = []
items zero (command ∷ high ∷ []) = []
items zero (command ∷ high ∷ low ∷ bytes) =
    let count = 256 * high + low in
    let method = method_at command methods in
    and_then_items (block method command count bytes) (items (block_len method count) bytes)

-- how many rows items are
abbrev pub count_rows : List Item → ℕ
count_rows items = length (filter is_some items)

-- the items of a run
abbrev pub run_items : Run → List Item
run_items WhiteSeed = None ∷ []
run_items (Rows method «data» count) = replicate count (Some (method, «data».now))

-- the items of a run, and none at the end of the data
abbrev pub items_of_run : Option Run → List Item
items_of_run None = []
items_of_run (Some run) = run_items run

-- Items from the first row on, the white seed rows before it passed.
unfoldable pub from_row : List Item → List Item
from_row [] = []
from_row (None ∷ others) = from_row others
from_row (Some row ∷ others) = Some row ∷ others

-- the seed row that this row meets, or after the last item where there is none
unfoldable pub seed_at_row : List Item → (seed : List ℕ) → List ℕ
seed_at_row [] seed = seed
seed_at_row (None ∷ others) seed = seed_at_row others (replicate (length seed) 0)
seed_at_row (Some row ∷ others) seed = seed

-- whether there is a row, and the row; without one, what stood there
abbrev pub is_row : List Item → Bool
is_row [] = false
is_row (item ∷ others) = true

abbrev pub row_in : List Item → (seed out : List ℕ) → List ℕ
row_in [] seed out = out
row_in (None ∷ others) seed out = out
row_in (Some row ∷ others) seed out = raster_row row.0 row.1 seed (length out)
