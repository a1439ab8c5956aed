-- A text of JSON in which no character stands that a terminal takes as a control.
use Rattle.std.specs.Prelude.{ℕ, List, [], ◌∷◌, ◌++◌, ◌==◌, ◌&&◌, nat_le, nat_lt, Bool, if◌then◌else◌, codes}
use Rattle.hex.specs.Hex.{encode_lower}

-- the escape of JSON for the character of a number below 256
abbrev pub escape_of : ℕ → List ℕ
escape_of number = codes "\\u00" ++ encode_lower (number ∷ [])

-- whether a byte stands for itself, whatever comes behind it: those of ASCII but the delete character
abbrev pub is_plain : ℕ → Bool
is_plain byte = nat_lt byte 127

-- whether two bytes are a character from U+0080 to U+009F in UTF-8
abbrev pub is_control : (first second : ℕ) → Bool
is_control first second = first == 194 && (nat_le 128 second && nat_le second 159)

-- a byte, or the escape of the delete character, U+007F
abbrev pub spelled_byte : ℕ → List ℕ
spelled_byte byte = if byte == 127 then escape_of byte else byte ∷ []

-- A text of JSON in UTF-8, where the escape of JSON stands for each character from U+007F to U+009F. Those below U+0020 JSON escapes itself.
abbrev pub spelled : List ℕ → List ℕ
spelled [] = []
spelled (byte ∷ []) = spelled_byte byte
spelled (first ∷ second ∷ text) =
    if is_control first second then escape_of second ++ spelled text else spelled_byte first ++ spelled (second ∷ text)
