-- P4 files, and what is none (Netpbm, the raw form of the PBM format).
use Rattle.std.specs.Prelude.{◌≡◌, ◌<◌, ◌*◌, ℕ, true, false, List, [], ◌∷◌, ◌++◌, length, Option, ◌⊎◌, ⊤}
use Rattle.std.specs.Io.KnownBytes.{Consumes, IsAtEnd}
use Rattle.press_bits.specs.Page.{Page, is_page_size}
use Rattle.press_bits.specs.Lines.{bytes_per_line}
use Rattle.press_bits.specs.DotRows.{page_of_rows}
use Rattle.press_pbm.specs.Header.{HeaderParts, AreHeaderParts, header_spelling, width_of, height_of, BeginsHeader, IsHeaderPrefix}
use Rattle.press_pbm.specs.declared.fault.ReadPbmError.{ReadPbmError}
use Rattle.press_pbm.specs.declared.fault.ReadPbmError.TheVariants.{NotPbm, BadSize, Truncated, ReadFault, NoMemory}

-- The bytes are a P4 file of the page: a header with the page's size, and the rows of its dots, each from a new byte on. The
-- bits behind the last dot of a row may be any.
pub record IsFile (page : Page) (bytes : List ℕ) : Type 0 where
  pub parts : HeaderParts
  pub header : AreHeaderParts parts
  pub rows : List ℕ
  pub spelled : bytes ≡ header_spelling parts ++ rows
  pub size : is_page_size (width_of parts) (height_of parts) ≡ true
  pub long : length rows ≡ height_of parts * bytes_per_line (width_of parts)
  pub shows : page ≡ page_of_rows (width_of parts) (height_of parts) rows

-- The bytes are a header whose size no page has.
pub record IsBadHeader (bytes : List ℕ) : Type 0 where
  pub parts : HeaderParts
  pub header : AreHeaderParts parts
  pub spelled : bytes ≡ header_spelling parts
  pub size : is_page_size (width_of parts) (height_of parts) ≡ false

-- The bytes are a prefix of a P4 file, and not all of it.
abbrev pub IsFilePrefix : List ℕ → Type 0
IsFilePrefix bytes = (more : List ℕ) × (0 < length more) × (page : Page) × IsFile page (bytes ++ more)

-- The bytes end with the first byte that no header has there.
pub record IsNoHeader (bytes : List ℕ) : Type 0 where
  pub prefix : List ℕ
  pub byte : ℕ
  pub ends : bytes ≡ prefix ++ byte ∷ []
  pub goes_on : IsHeaderPrefix prefix
  pub none : BeginsHeader bytes → ⊥

-- What was read, by why no page was given: it ends with the first byte that no header has there; it is a header of a bad size;
-- the input ends behind it, within a header or a file.
abbrev pub Refused : ReadPbmError → Option (List ℕ) → Option (List ℕ) → Type 0
Refused NotPbm had left = (read : List ℕ) × Consumes had left read × IsNoHeader read
Refused BadSize had left = (read : List ℕ) × Consumes had left read × IsBadHeader read
Refused Truncated had left = (read : List ℕ) × Consumes had left read × IsAtEnd left × (IsHeaderPrefix read ⊎ IsFilePrefix read)
Refused ReadFault had left = ⊤
Refused NoMemory had left = ⊤
