-- Lines of bytes, their words and numbers.
use Rattle.std.specs.Prelude.{◌≡◌, ◌==◌, ◌&&◌, ℕ, Bool, false, List, [], ◌∷◌, ◌++◌, nat_le, Option, Some, None, if◌then◌else◌, ⊤}
use Rattle.std.specs.Char.{is_ascii_digit}
use Rattle.std.specs.List.{list_all, slice_split}
use Rattle.press_units.specs.Limits.{greatest_of_64_bits}
use Rattle.press_units.specs.Value.{number_of}
use Rattle.press_asm.specs.Text.{is_feed, lines_of}

-- a space
abbrev pub is_space : ℕ → Bool
is_space byte = byte == 32

-- The words of a line: what stands before the first space, between two, and behind the last.
abbrev pub words_of : List ℕ → List (List ℕ)
words_of line = slice_split is_space line

-- The number that a word is: digits, and at most 18446744073709551615.
abbrev pub number_in : List ℕ → Option ℕ
number_in word =
    if list_all is_ascii_digit word && nat_le (number_of word) greatest_of_64_bits then Some (number_of word) else None

-- the same of a word that is not empty
abbrev pub number_word : List ℕ → Option ℕ
number_word [] = None
number_word (digit ∷ digits) = number_in (digit ∷ digits)

-- no line feed stands among the bytes
abbrev pub HasNoFeed : List ℕ → Type 0
HasNoFeed [] = ⊤
HasNoFeed (byte ∷ bytes) = (is_feed byte ≡ false) × HasNoFeed bytes

-- These are the first lines of a text, and others stand behind them.
abbrev pub BeginsWith : (text : List ℕ) → List (List ℕ) → Type 0
BeginsWith text lines = (others : List (List ℕ)) × (lines_of text ≡ lines ++ others)

-- These are the lines of a text that end with a line feed; what stands behind them has none.
abbrev pub HasWhole : (text : List ℕ) → List (List ℕ) → Type 0
HasWhole text lines = (rest : List ℕ) × (lines_of text ≡ lines ++ lines_of rest) × HasNoFeed rest
