-- The split of a list of bytes into commands and a rest.
use Rattle.std.specs.Prelude.{◌≡◌, ℕ, if◌then◌else◌, List, [], ◌∷◌, ◌++◌, map, length, nat_lt, ⊤}
use Rattle.press_cmd.specs.Token.{Token, Text, Broken, Uel, PjlLine, ForeignByte, escape_byte, pjl_mark, bytes_of}
use Rattle.press_cmd.specs.ParserState.{ParserState, Exit, OtherLanguage, Pcl, Open}
use Rattle.press_cmd.specs.Language.{mode_after}
use Rattle.press_cmd.specs.Grammar.{Head, scanned_in}

-- From a mode, the front of the bytes is these commands one after another, and leaves this mode and what is left.
-- Nothing is said of what is left: these commands are a prefix of the commands of the bytes.
abbrev pub Steps : ParserState → List ℕ → List Token → ParserState → List ℕ → Type 0
Steps from bytes [] mode rest = (from ≡ mode) × (bytes ≡ rest)
Steps from bytes (command ∷ commands) mode rest =
    (used left : List ℕ) × (next : ParserState) × (bytes ≡ used ++ left) × Head from used left command next × Steps next left commands mode rest

-- no command stands at the front of the bytes
abbrev pub NoHead : ParserState → List ℕ → Type 0
NoHead mode bytes = (used left : List ℕ) (command : Token) (next : ParserState) → bytes ≡ used ++ left → Head mode used left command next → ⊥

-- The split of the bytes from a mode: the commands one after another, and a rest at whose front no command stands.
pub record SplitFrom (from : ParserState) (bytes : List ℕ) (commands : List Token) (mode : ParserState) (rest : List ℕ) : Type 0 where
  pub steps : Steps from bytes commands mode rest
  pub short : NoHead mode rest

-- The split of a stream, which begins as if after a universal exit.
abbrev pub Split : List ℕ → List Token → ParserState → List ℕ → Type 0
Split bytes commands mode rest = SplitFrom Exit bytes commands mode rest

-- what a rest that is not empty stands for at the end of input, in the mode in which it is scanned: a sequence or
-- line that does not go on is broken, part of `@PJL` is text, and part of a universal exit in a foreign language
-- is foreign bytes
abbrev pub closing_in : ParserState → List ℕ → List Token
closing_in mode [] = []
closing_in Exit (byte ∷ rest) =
    if nat_lt (length (byte ∷ rest)) (length pjl_mark) then map Text (byte ∷ rest) else Broken (byte ∷ rest) ∷ []
closing_in OtherLanguage (byte ∷ rest) = map ForeignByte (byte ∷ rest)
closing_in (Open character group) (byte ∷ rest) = Broken (escape_byte ∷ character ∷ group ∷ byte ∷ rest) ∷ []
closing_in mode (byte ∷ rest) = Broken (byte ∷ rest) ∷ []

-- The commands that the rest of a split stands for at the end of input.
abbrev pub closing : ParserState → List ℕ → List Token
closing mode rest = closing_in (scanned_in mode rest) rest

-- The commands of bytes that end here, from a mode: those of the split, and those that the rest stands for.
abbrev pub ClosedFrom : ParserState → List ℕ → List Token → Type 0
ClosedFrom from bytes all =
    (commands : List Token) × (mode : ParserState) × (rest : List ℕ) × SplitFrom from bytes commands mode rest × (all ≡ commands ++ closing mode rest)

-- the commands of a stream that ends here
abbrev pub Closed : List ℕ → List Token → Type 0
Closed bytes all = ClosedFrom Exit bytes all

-- The split of the command's bytes from this mode, whatever follows them, begins with the command.
abbrev pub BeginsSplit : ParserState → Token → Type 0
BeginsSplit from command =
    (following : List ℕ) (commands : List Token) (mode : ParserState) (rest : List ℕ)
    → SplitFrom from (bytes_of command ++ following) commands mode rest
    → (others : List Token) × (commands ≡ command ∷ others)

-- The command's bytes, whatever follows them, are the command, which uses all of them and leaves the next mode. So the
-- split of these bytes, whatever follows them, begins with the command.
pub record ReadsBack (from : ParserState) (command : Token) (next : ParserState) : Type 0 where
  pub head : (following : List ℕ) → Head from (bytes_of command) following command next
  pub split : BeginsSplit from command

-- The command's bytes are read back as the command: from mode Pcl, and for a PJL line from mode Exit. After a universal
-- exit the mode is Exit, after a line what its language says, and else Pcl. Of bytes that broke, and of a foreign byte,
-- nothing is said.
abbrev pub IsReadBack : Token → Type 0
IsReadBack (Broken bytes) = ⊤
IsReadBack (ForeignByte byte) = ⊤
IsReadBack (PjlLine line) = ReadsBack Exit (PjlLine line) (mode_after line)
IsReadBack Uel = ReadsBack Pcl Uel Exit
IsReadBack command = ReadsBack Pcl command Pcl
