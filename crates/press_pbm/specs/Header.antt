-- The header of a P4 file (Netpbm, the raw form of the PBM format; the limit of its length is this profile's).
use Rattle.std.specs.Prelude.{◌≡◌, ◌≤◌, ◌<◌, ◌==◌, ◌&&◌, ◌||◌, ℕ, Bool, true, false, List, [], ◌∷◌, ◌++◌, length, nat_le}
use Rattle.std.specs.List.{AllByRecursion, flat_map}
use Rattle.std.specs.Char.{is_ascii_digit}
use Rattle.press_units.specs.Value.{number_of}

-- white space: tab, LF, VT, FF, CR and the space
abbrev pub is_white_space : ℕ → Bool
is_white_space byte = (nat_le 9 byte && nat_le byte 13) || (byte == 32)

-- the end of a line: LF or CR
abbrev pub is_line_end : ℕ → Bool
is_line_end byte = (byte == 10) || (byte == 13)

-- A piece of a gap: a byte of white space; or a comment, its text and the byte that ends its line.
pub data Piece : Type 0 where
  White : (byte : ℕ) → Piece
  Comment : (text : List ℕ) (end : ℕ) → Piece

abbrev pub IsPiece : Piece → Type 0
IsPiece (White byte) = is_white_space byte ≡ true
IsPiece (Comment text end) = AllByRecursion (λ byte. is_line_end byte ≡ false) text × (is_line_end end ≡ true)

-- A comment runs from `#` through the first LF or CR.
abbrev pub piece_bytes : Piece → List ℕ
piece_bytes (White byte) = byte ∷ []
piece_bytes (Comment text end) = 35 ∷ (text ++ end ∷ [])

abbrev pub gap_bytes : List Piece → List ℕ
gap_bytes = flat_map piece_bytes

-- A gap is one piece or more, and a number one digit or more.
abbrev pub IsGap : List Piece → Type 0
IsGap pieces = (0 < length pieces) × AllByRecursion IsPiece pieces

abbrev pub IsNumber : List ℕ → Type 0
IsNumber digits = (0 < length digits) × AllByRecursion (λ byte. is_ascii_digit byte ≡ true) digits

-- The parts of a header behind its `P4`, in their order.
pub record HeaderParts : Type 0 where
  pub before_width : List Piece
  pub width : List ℕ
  pub before_height : List Piece
  pub height : List ℕ
  pub last : ℕ

-- the bytes that spell the parts
abbrev pub header_spelling : HeaderParts → List ℕ
header_spelling parts = 80 ∷ 52 ∷ (gap_bytes parts.before_width ++ (parts.width ++ (gap_bytes parts.before_height ++ (parts.height ++ parts.last ∷ []))))

-- The parts are those of a header: gaps, numbers, and one byte of white space; in at most 65,536 bytes.
pub record AreHeaderParts (parts : HeaderParts) : Type 0 where
  pub before_width : IsGap parts.before_width
  pub width : IsNumber parts.width
  pub before_height : IsGap parts.before_height
  pub height : IsNumber parts.height
  pub last : is_white_space parts.last ≡ true
  pub long : length (header_spelling parts) ≤ 65536

abbrev pub width_of : HeaderParts → ℕ
width_of parts = number_of parts.width

abbrev pub height_of : HeaderParts → ℕ
height_of parts = number_of parts.height

-- A header: the spelling of its parts.
abbrev pub IsHeader : List ℕ → Type 0
IsHeader bytes = (parts : HeaderParts) × AreHeaderParts parts × (bytes ≡ header_spelling parts)

-- Some header begins with the bytes.
abbrev pub BeginsHeader : List ℕ → Type 0
BeginsHeader bytes = (more : List ℕ) × IsHeader (bytes ++ more)

-- The bytes are a prefix of a header, and not all of it.
abbrev pub IsHeaderPrefix : List ℕ → Type 0
IsHeaderPrefix bytes = (more : List ℕ) × (0 < length more) × IsHeader (bytes ++ more)
