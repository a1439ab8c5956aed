-- How raster rows lie across the frame of a page, and the room that painting them takes (PCL 5 Printer Language Technical
-- Reference Manual, Raster Graphics). No public clause of this crate cites these.
use Rattle.std.specs.Prelude.{◌≡◌, ◌≤◌, ℕ, ◌+◌, ◌-◌, ◌*◌, ◌/◌, nat_eq, min, pos, if◌then◌else◌, List, length}
use Rattle.press_bits.specs.Bands.{BandedPage, AreReady}
use Rattle.press_raster.specs.declared.row_strip.Across.{Across}

-- How many columns of a frame of this width rows of so many dots cover, each dot so many dots wide: what lies right of the frame
-- is dropped.
abbrev pub covered_columns : (width column size dots : ℕ) → ℕ
covered_columns width column size dots = min (size * dots) (width - column)

-- how they lie across it
abbrev pub across_of : (width column size dots : ℕ) → Across
across_of width column size dots = record {
  column = column;
  columns = covered_columns width column size dots;
  size = size;
}

-- So many lines of the frame are ready, from a line on, where rows cover columns.
abbrev pub AcrossReady : Across → BandedPage → (line lines : ℕ) → Type 0
AcrossReady across frame line lines = 1 ≤ across.columns → AreReady frame (pos line) lines

-- how many bytes of room the dots of a row take that are widened before they are painted, a word at a time
abbrev pub room_for : Across → ℕ
room_for across = if nat_eq across.size 1 then 0 else across.columns / 8 + 8

-- Room for the dots of a row along a line of the frame.
pub record HasRoom (across : Across) (scratch : List ℕ) : Type 0 where
  pub dots : length scratch ≡ room_for across
