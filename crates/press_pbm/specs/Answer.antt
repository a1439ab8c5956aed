-- What an input is to a reader of P4 files.
use Rattle.std.specs.Prelude.{◌≡◌, ℕ, true, List, ◌++◌, ◌⊎◌}
use Rattle.press_bits.specs.Page.{Page, HasNoDotOutside, is_page_size}
use Rattle.press_pbm.specs.Header.{IsHeaderPrefix}
use Rattle.press_pbm.specs.File.{IsFile, IsBadHeader, IsNoHeader, IsFilePrefix}
use Rattle.press_pbm.specs.Spelling.{file_of}

pub data Answer : Type 0 where
  PageOf : (page : Page) (file : List ℕ) → Answer
  NoHeader : Answer
  BadHeader : Answer
  CutShort : Answer

-- The input begins with a file of the page; with bytes with which no header begins; with a header of a bad size; or it is itself
-- a prefix of a header or of a file.
abbrev pub Answers : List ℕ → Answer → Type 0
Answers input (PageOf page file) = (rest : List ℕ) × (input ≡ file ++ rest) × IsFile page file
Answers input NoHeader = (read rest : List ℕ) × (input ≡ read ++ rest) × IsNoHeader read
Answers input BadHeader = (header rest : List ℕ) × (input ≡ header ++ rest) × IsBadHeader header
Answers input CutShort = IsHeaderPrefix input ⊎ IsFilePrefix input

-- An input has at most one answer.
abbrev pub HasOneAnswer : Type 0
HasOneAnswer = (input : List ℕ) (answer other : Answer) → Answers input answer → Answers input other → answer ≡ other

-- What a page of a bitmap's size is written as is a file of that page.
abbrev pub WrittenIsFile : Type 0
WrittenIsFile = (page : Page) → is_page_size page.width page.height ≡ true → HasNoDotOutside page → IsFile page (file_of page)
