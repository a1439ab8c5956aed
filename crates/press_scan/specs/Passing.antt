-- Commands of one byte each, passed over at once.
use Rattle.std.specs.Prelude.{◌≡◌, ◌∷◌, ◌++◌, ◌==◌, ◌&&◌, ⊤, ℕ, Bool, true, false, IsTrue, List, [], length, not, nat_lt, if◌then◌else◌}
use Rattle.std.specs.Int.{is_in_range}
use Rattle.std.specs.List.{AllByRecursion, list_all}
use Rattle.press_cmd.specs.Token.{Token, Control, Text, ForeignByte, escape_byte}
use Rattle.press_cmd.specs.Kinds.{kind_of}
use Rattle.press_cmd.specs.ParserState.{ParserState, OtherLanguage, Pcl}
use Rattle.press_scan.specs.declared.passing.Passed.{Passed}
use Rattle.press_scan.specs.Gives.{Passes}
use Rattle.press_scan.specs.ScannerState.{ScannerState}

-- Commands were given, one after another.
abbrev pub PassesEach : ScannerState → List Token → ScannerState → Type 0
PassesEach old [] new = new ≡ old
PassesEach old (command ∷ commands) new = (next : ScannerState) × Passes old command next × PassesEach next commands new

-- a text byte or a byte of another language, and with control bytes one of these, too
abbrev pub IsOneByte : (controls : Bool) → Token → Type 0
IsOneByte controls (Text byte) = ⊤
IsOneByte controls (ForeignByte byte) = ⊤
IsOneByte controls (Control byte) = IsTrue controls
IsOneByte controls _ = ⊥

-- So many such commands were given, one after another, and the last has this kind.
pub record PassesOver (controls : Bool) (old : ScannerState) (passed : Passed) (new : ScannerState) : Type 0 where
  pub prefix : List Token
  pub last : Token
  pub each : PassesEach old (prefix ++ last ∷ []) new
  pub bytes : AllByRecursion (IsOneByte controls) (prefix ++ last ∷ [])
  pub count : passed.count ≡ length (prefix ++ last ∷ [])
  pub kind : passed.kind ≡ kind_of last

-- whether a byte is a text byte, or with control bytes any but the escape character
abbrev pub is_plain : (controls : Bool) → ℕ → Bool
is_plain false byte = is_in_range 32 255 byte
is_plain true byte = is_in_range 0 255 byte && not (byte == escape_byte)

-- the command of one byte that is no escape character
abbrev pub byte_command : ParserState → ℕ → Token
byte_command OtherLanguage byte = ForeignByte byte
byte_command mode byte = if nat_lt byte 32 then Control byte else Text byte

-- whether bytes are such commands, in the mode in which they are scanned
abbrev pub ArePlain : (controls : Bool) → ParserState → List ℕ → Type 0
ArePlain controls Pcl bytes = list_all (is_plain controls) bytes ≡ true
ArePlain controls OtherLanguage bytes = list_all (is_plain true) bytes ≡ true
ArePlain controls _ bytes = bytes ≡ []
