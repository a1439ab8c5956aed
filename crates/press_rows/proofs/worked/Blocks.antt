-- Adaptive data, computed on the definitions.
use Rattle.std.proofs.Common.{◌≡◌, ℕ, List, [], ◌∷◌, Option, Some, None, replicate, refl}
use Rattle.press_rows.specs.declared.compression.Method.TheVariants.{PackBits}
use Rattle.press_rows.specs.Blocks.{Item, count_rows, items, seed_at_row}
use Rattle.press_rows.specs.DeltaRow.{deltas, replacements, laid_over}
use Rattle.press_rows.specs.Row.{raster_row}

-- the rows after a seed row, each with the seed row of the next one; none where the seed row became white
unfoldable adaptive_rows : List Item → (seed : List ℕ) → (width : ℕ) → List (Option (List ℕ))
adaptive_rows [] seed width = []
adaptive_rows (None ∷ others) seed width = None ∷ adaptive_rows others (replicate width 0) width
adaptive_rows (Some row ∷ others) seed width =
    let bits = raster_row row.0 row.1 seed width in Some bits ∷ adaptive_rows others bits width

-- a row, the same twice more, an empty one, and a delta row of that
five_rows : adaptive_rows (items 0 (0x00 ∷ 0x00 ∷ 0x01 ∷ 0xFF ∷ 0x05 ∷ 0x00 ∷ 0x02 ∷ 0x04 ∷ 0x00 ∷ 0x01 ∷ 0x03 ∷ 0x00 ∷ 0x02 ∷ 0x00 ∷ 0x81 ∷ [])) [] 1
    ≡ Some (0xFF ∷ []) ∷ Some (0xFF ∷ []) ∷ Some (0xFF ∷ []) ∷ Some (0x00 ∷ []) ∷ Some (0x81 ∷ []) ∷ []
unfolding items adaptive_rows raster_row deltas replacements laid_over
five_rows = refl

-- a count of 0 makes the seed row white where it stands; a row of no data is one; an unknown command ends the data
counts_of_zero : items 0 (0x05 ∷ 0x00 ∷ 0x00 ∷ 0x02 ∷ 0x00 ∷ 0x00 ∷ 0x04 ∷ 0x00 ∷ 0x00 ∷ 0x06 ∷ 0x00 ∷ 0x00 ∷ 0x04 ∷ 0x00 ∷ 0x01 ∷ [])
    ≡ None ∷ Some (PackBits, []) ∷ None ∷ []
unfolding items
counts_of_zero = refl

-- of cut data what is there; a cut header stands for nothing
cut_data : items 0 (0x02 ∷ 0x00 ∷ 0x05 ∷ 0x00 ∷ 0xAA ∷ []) ≡ Some (PackBits, 0x00 ∷ 0xAA ∷ []) ∷ []
unfolding items
cut_data = refl

cut_header : items 0 (0x04 ∷ 0x00 ∷ []) ≡ []
unfolding items
cut_header = refl

-- the seed row is white also where no row follows
white_at_the_end : seed_at_row (items 0 (0x04 ∷ 0x00 ∷ 0x00 ∷ [])) (0xFF ∷ 0xFF ∷ []) ≡ 0x00 ∷ 0x00 ∷ []
unfolding items seed_at_row
white_at_the_end = refl

-- counts are of two bytes, most significant byte first
many_rows : count_rows (items 0 (0x05 ∷ 0x01 ∷ 0x02 ∷ [])) ≡ 258
unfolding items
many_rows = refl

-- a row of delta row data is cut, too: what is there of it replaces
cut_delta_row : adaptive_rows (items 0 (0x03 ∷ 0x00 ∷ 0x04 ∷ 0x20 ∷ 0xAA ∷ [])) (0x0F ∷ 0x0F ∷ []) 2 ≡ Some (0xAA ∷ 0x0F ∷ []) ∷ []
unfolding items adaptive_rows raster_row deltas replacements laid_over
cut_delta_row = refl

-- no data, and an unknown command at the front, stand for nothing
nothing : items 0 [] ≡ []
unfolding items
nothing = refl

unknown_command : items 0 (0x80 ∷ 0x00 ∷ 0x01 ∷ 0xFF ∷ []) ≡ []
unfolding items
unknown_command = refl
