-- The laws of commands and splits, as statements.
use Rattle.std.specs.Prelude.{◌≡◌, ℕ, List, ◌++◌}
use Rattle.press_cmd.specs.Token.{Token}
use Rattle.press_cmd.specs.ParserState.{ParserState}
use Rattle.press_cmd.specs.Grammar.{Whole, Head}
use Rattle.press_cmd.specs.Split.{SplitFrom}

-- No command begins another: whole commands in one mode whose bytes begin one list of bytes are the same.
abbrev pub NoCommandBeginsAnother : Type 0
NoCommandBeginsAnother =
    (mode : ParserState) (bytes more bytes' more' : List ℕ) (command command' : Token) (next next' : ParserState)
    → Whole mode bytes command next → Whole mode bytes' command' next' → bytes ++ more ≡ bytes' ++ more'
    → (bytes ≡ bytes') × (command ≡ command') × (next ≡ next')

-- At most one Head stands at the front of a list of bytes.
abbrev pub AtMostOneHead : Type 0
AtMostOneHead =
    (mode : ParserState) (used left used' left' : List ℕ) (command command' : Token) (next next' : ParserState)
    → Head mode used left command next → Head mode used' left' command' next' → used ++ left ≡ used' ++ left'
    → (used ≡ used') × (left ≡ left') × (command ≡ command') × (next ≡ next')

-- Each list of bytes has at most one split from a mode.
abbrev pub AtMostOneSplit : Type 0
AtMostOneSplit =
    (from : ParserState) (bytes : List ℕ) (commands commands' : List Token) (mode mode' : ParserState) (rest rest' : List ℕ)
    → SplitFrom from bytes commands mode rest → SplitFrom from bytes commands' mode' rest'
    → (commands ≡ commands') × (mode ≡ mode') × (rest ≡ rest')

-- Each list of numbers, of bytes among them, has a split from each mode.
abbrev pub AtLeastOneSplit : Type 0
AtLeastOneSplit = (from : ParserState) (bytes : List ℕ) → (commands : List Token) × (mode : ParserState) × (rest : List ℕ) × SplitFrom from bytes commands mode rest

-- The cutting law: the split of a list followed by another is the commands of the first, and then the split, from the
-- mode that these leave, of the first one's rest followed by the other.
abbrev pub CuttingLaw : Type 0
CuttingLaw =
    (from : ParserState) (first second : List ℕ) (commands commands' : List Token) (mode mode' : ParserState) (rest rest' : List ℕ)
    → SplitFrom from first commands mode rest → SplitFrom mode (rest ++ second) commands' mode' rest'
    → SplitFrom from (first ++ second) (commands ++ commands') mode' rest'
