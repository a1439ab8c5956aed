-- Assembly text: its lines, and the commands and bytes that they stand for.
use Rattle.std.specs.Prelude.{◌≡◌, ℕ, Bool, ◌+◌, ◌==◌, if◌then◌else◌, List, [], ◌∷◌, ◌++◌, length}
use Rattle.std.specs.List.{flat_map}
use Rattle.press_cmd.specs.Token.{Token, bytes_of}
use Rattle.press_asm.specs.Form.{Form, HasForm, Gives, StandsFor, IsBadLine, IsBadValue, IsBadData}
use Rattle.press_asm.specs.declared.fault.AssembleError.{AssembleError}
use Rattle.press_asm.specs.declared.fault.AssembleError.TheVariants.{BadLine, BadValue, BadData, NoMemory}

-- a line feed
abbrev pub is_feed : ℕ → Bool
is_feed byte = byte == 10

-- the byte in front of the first line
abbrev pub in_front : ℕ → List (List ℕ) → List (List ℕ)
in_front byte [] = (byte ∷ []) ∷ []
in_front byte (line ∷ lines) = (byte ∷ line) ∷ lines

-- the lines of a text: each ends with a line feed, which the last may lack
abbrev pub lines_of : List ℕ → List (List ℕ)
lines_of [] = []
lines_of (byte ∷ text) = if is_feed byte then [] ∷ lines_of text else in_front byte (lines_of text)

-- the bytes of commands, one after another
abbrev pub all_bytes : List Token → List ℕ
all_bytes = flat_map bytes_of

-- the lines stand for these commands in order, each for one or for none
abbrev pub LinesGive : List (List ℕ) → List Token → Type 0
LinesGive [] commands = commands ≡ []
LinesGive (line ∷ lines) commands =
    (form : Form) × (first others : List Token) × HasForm line form × Gives form first × (commands ≡ first ++ others) × LinesGive lines others

-- the lines stand for these commands, one each
abbrev pub LinesStand : List (List ℕ) → List Token → Type 0
LinesStand [] commands = commands ≡ []
LinesStand (line ∷ lines) [] = ⊥
LinesStand (line ∷ lines) (command ∷ commands) = StandsFor line command × LinesStand lines commands

-- The text assembles to the bytes: those of the commands that its lines stand for, in order.
pub record Assembles (text bytes : List ℕ) : Type 0 where
  pub commands : List Token
  pub give : LinesGive (lines_of text) commands
  pub spelled : bytes ≡ all_bytes commands

-- The line of this number, counted from 1, has the fault, and each line before it is of the grammar.
pub record IsFirst (text : List ℕ) (number : ℕ) (HasFault : List ℕ → Type 0) : Type 0 where
  pub before : List (List ℕ)
  pub line : List ℕ
  pub after : List (List ℕ)
  pub commands : List Token
  pub cut : lines_of text ≡ before ++ (line ∷ after)
  pub give : LinesGive before commands
  pub count : number ≡ length before + 1
  pub fault : HasFault line

-- The text is refused so: by its first line that is not of the grammar.
abbrev pub Refuses : List ℕ → AssembleError → Type 0
Refuses text (BadLine number) = IsFirst text number IsBadLine
Refuses text (BadValue number) = IsFirst text number IsBadValue
Refuses text (BadData number) = IsFirst text number IsBadData
Refuses text NoMemory = Unit {0}
