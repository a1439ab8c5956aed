-- The disassembly of bytes.
use Rattle.std.specs.Prelude.{◌≡◌, ◌∷◌, ◌++◌, ℕ, List, [], Bool, true, false}
use Rattle.press_cmd.specs.Token.{Token}
use Rattle.press_cmd.specs.ParserState.{ParserState}
use Rattle.press_cmd.specs.Split.{Closed, Split}
use Rattle.press_scan.specs.Gives.{Passes, IsDone}
use Rattle.press_scan.specs.Passing.{PassesEach}
use Rattle.press_scan.specs.ScannerState.{ScannerState}
use Rattle.press_asm.specs.Text.{all_bytes, lines_of, LinesStand, Assembles}
use Rattle.press_asm.specs.Written.{written_line, text_of, IsWritten, AreWritten}

-- The text is the lines of the commands of the closed split of the bytes, in order, and these lines stand for the commands, one
-- each. So the text assembles to the bytes of these commands, and whatever it assembles to has the same closed split.
pub record IsDisassembly (bytes text : List ℕ) : Type 0 where
  pub commands : List Token
  pub closed : Closed bytes commands
  pub listed : text ≡ text_of commands
  pub stand : LinesStand (lines_of text) commands
  pub assembles : Assembles text (all_bytes commands)
  pub again : (assembled : List ℕ) → Assembles text assembled → Closed assembled commands

-- the text lists the commands of the closed split of the bytes, each by its line
pub record IsListed (bytes text : List ℕ) : Type 0 where
  pub commands : List Token
  pub closed : Closed bytes commands
  pub written : AreWritten commands
  pub listed : text ≡ text_of commands

-- The text is the lines of the commands of the split of the bytes: of all that are whole, whatever comes behind these bytes.
pub record ListsWhole (bytes text : List ℕ) : Type 0 where
  pub commands : List Token
  pub mode : ParserState
  pub rest : List ℕ
  pub split : Split bytes commands mode rest
  pub listed : text ≡ text_of commands

-- The text is the lines of the first commands of the closed split of the bytes.
pub record ListsFirst (bytes text : List ℕ) : Type 0 where
  pub commands : List Token
  pub others : List Token
  pub closed : Closed bytes (commands ++ others)
  pub listed : text ≡ text_of commands

-- a scanner gave a command, and its line was put behind these; or it has none to give, and nothing changed
abbrev pub ListsNext : (old : ScannerState) (before : List ℕ) (some : Bool) (new : ScannerState) (lines : List ℕ) → Type 0
ListsNext old before true new lines =
    (command : Token) × Passes old command new × IsWritten command × (lines ≡ before ++ (written_line command ++ 10 ∷ []))
ListsNext old before false new lines = IsDone old × (new ≡ old) × (lines ≡ before)

-- A scanner gave commands one after another, and their lines were put behind these.
pub record Lists (old : ScannerState) (before : List ℕ) (new : ScannerState) (lines : List ℕ) : Type 0 where
  pub commands : List Token
  pub each : PassesEach old commands new
  pub written : AreWritten commands
  pub listed : lines ≡ before ++ text_of commands

-- the same, and it has none left to give
abbrev pub ListsAll : (old : ScannerState) (before : List ℕ) (new : ScannerState) (lines : List ℕ) → Type 0
ListsAll old before new lines = Lists old before new lines × IsDone new
