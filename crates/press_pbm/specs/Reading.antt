-- How far the reader came. No public clause cites these.
use Rattle.std.specs.Prelude.{◌≡◌, ℕ, ◌+◌, ◌-◌, ◌*◌, ◌<◌, ◌==◌, min, if◌then◌else◌, List, length, Option, Some, None, ⊤}
use Rattle.std.specs.Char.{is_ascii_digit}
use Rattle.std.specs.Io.KnownBytes.{Consumes, IsAtEnd}
use Rattle.press_bits.specs.Page.{longest_side}
use Rattle.press_pbm.specs.Header.{is_white_space, is_line_end, HeaderParts, AreHeaderParts, header_spelling, width_of, height_of}
use Rattle.press_pbm.specs.declared.fault.ReadPbmError.{ReadPbmError}
use Rattle.press_pbm.specs.declared.fault.ReadPbmError.TheVariants.{NotPbm, BadSize, Truncated, ReadFault, NoMemory}
use Rattle.press_pbm.specs.declared.place.Side.{Side}
use Rattle.press_pbm.specs.declared.place.Side.TheVariants.{Width, Height}
use Rattle.press_pbm.specs.declared.place.Place.{Place}
use Rattle.press_pbm.specs.declared.place.Place.TheVariants.{Start, Letter, Magic, Gap, Comment, Number, End}

-- one above the most dots on a side
abbrev pub past_longest : ℕ
past_longest = longest_side + 1

-- a number with one more digit, cut to one above the greatest size
abbrev pub with_digit : ℕ → ℕ → ℕ
with_digit number digit = min (10 * number + (digit - 48)) past_longest

-- the place behind a byte that begins a piece of a gap
abbrev pub place_in_gap : Side → ℕ → Option Place
place_in_gap side byte = if is_white_space byte then Some (Gap side) else (if byte == 35 then Some (Comment side) else None)

-- the place behind one more byte, if a header may have it there
abbrev pub place_after : Place → ℕ → Option Place
place_after Start byte = if byte == 80 then Some Letter else None
place_after Letter byte = if byte == 52 then Some Magic else None
place_after Magic byte = place_in_gap Width byte
place_after (Gap side) byte = if is_ascii_digit byte then Some (Number side (with_digit 0 byte)) else place_in_gap side byte
place_after (Comment side) byte = if is_line_end byte then Some (Gap side) else Some (Comment side)
place_after (Number Width number) byte =
    if is_ascii_digit byte then Some (Number Width (with_digit number byte)) else place_in_gap (Height number) byte
place_after (Number (Height width) number) byte =
    if is_ascii_digit byte then Some (Number (Height width) (with_digit number byte))
    else (if is_white_space byte then Some (End width number) else None)
place_after (End width height) byte = None

-- how many bytes a header has at least behind a gap before this side, and behind its number
abbrev pub least_behind_gap : Side → ℕ
least_behind_gap Width = 4
least_behind_gap (Height width) = 2

-- how many bytes a header has at least behind this place
abbrev pub least_behind : Place → ℕ
least_behind Start = 7
least_behind Letter = 6
least_behind Magic = 5
least_behind (Gap side) = least_behind_gap side
least_behind (Comment side) = least_behind_gap side + 1
least_behind (Number side number) = least_behind_gap side - 1
least_behind (End width height) = 0

-- A header was read, and its size, cut to one above the greatest.
pub record ReadHeader (size : ℕ × ℕ) (had left : Option (List ℕ)) : Type 0 where
  pub parts : HeaderParts
  pub header : AreHeaderParts parts
  pub read : Consumes had left (header_spelling parts)
  pub width : size.0 ≡ min (width_of parts) past_longest
  pub height : size.1 ≡ min (height_of parts) past_longest

-- Fewer bytes than were wanted were read: the input ended behind them, or a read failed.
abbrev pub StopsShort : ReadPbmError → (wanted : ℕ) → Option (List ℕ) → Option (List ℕ) → Type 0
StopsShort Truncated wanted had left = (read : List ℕ) × (length read < wanted) × Consumes had left read × IsAtEnd left
StopsShort ReadFault wanted had left = ⊤
StopsShort NotPbm wanted had left = ⊥
StopsShort BadSize wanted had left = ⊥
StopsShort NoMemory wanted had left = ⊥

-- Fewer rows than were wanted were read: fewer bytes were, or memory ran out.
abbrev pub RowsStop : ReadPbmError → (wanted : ℕ) → Option (List ℕ) → Option (List ℕ) → Type 0
RowsStop Truncated wanted had left = StopsShort Truncated wanted had left
RowsStop ReadFault wanted had left = ⊤
RowsStop NotPbm wanted had left = ⊥
RowsStop BadSize wanted had left = ⊥
RowsStop NoMemory wanted had left = ⊤
