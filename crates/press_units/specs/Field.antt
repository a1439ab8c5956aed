-- Value fields: the text between the group character and the character that ends a parameter
-- (PCL 5 Printer Language Technical Reference Manual, the syntax of escape sequences).
use Rattle.std.specs.Prelude.{◌≡◌, ◌≤◌, ◌==◌, ◌&&◌, ◌||◌, ℕ, Bool, true, List, [], ◌∷◌, ◌++◌, length, nat_le, if◌then◌else◌}
use Rattle.std.specs.Prelude.{Option, Some, None, option_to_list, IfSome, ◌⊎◌}
use Rattle.std.specs.List.{All, list_all}
use Rattle.std.specs.Char.{IsAsciiDigit, is_ascii_digit}

-- the parts of a value field, in their order: a sign, digits, and a point with digits; each may be missing
pub record Parts : Type 0 where
  pub sign : Option ℕ
  pub whole : List ℕ
  pub fraction : Option (List ℕ)

-- a plus or a minus
abbrev pub IsSign : ℕ → Type 0
IsSign byte = (byte ≡ 43) ⊎ (byte ≡ 45)

-- a point and the digits after it
abbrev pub fraction_bytes : Option (List ℕ) → List ℕ
fraction_bytes None = []
fraction_bytes (Some digits) = 46 ∷ digits

-- the bytes that spell the parts
abbrev pub spelling : Parts → List ℕ
spelling parts = option_to_list parts.sign ++ (parts.whole ++ fraction_bytes parts.fraction)

-- the sign is one, and digits are digits
pub record AreParts (parts : Parts) : Type 0 where
  pub sign : IfSome parts.sign IsSign
  pub whole : All IsAsciiDigit parts.whole
  pub fraction : IfSome parts.fraction (All IsAsciiDigit)

-- the most bytes that a value field has (this profile)
abbrev pub longest_field : ℕ
longest_field = 32

-- A value field: the spelling of its parts, in at most 32 bytes.
abbrev pub IsField : List ℕ → Type 0
IsField bytes = (parts : Parts) × AreParts parts × (bytes ≡ spelling parts) × (length bytes ≤ longest_field)

-- whether the byte is a plus or a minus
abbrev pub is_sign : ℕ → Bool
is_sign byte = (byte == 43) || (byte == 45)

abbrev pub is_point : ℕ → Bool
is_point byte = byte == 46

-- whether the byte may stand in a value field: a sign, a digit or a point
abbrev pub is_field_byte : ℕ → Bool
is_field_byte byte = is_sign byte || is_ascii_digit byte || is_point byte

-- whether the bytes are digits, and a point with digits if one stands
abbrev pub is_unsigned_field : List ℕ → Bool
is_unsigned_field [] = true
is_unsigned_field (byte ∷ bytes) =
    if is_ascii_digit byte then is_unsigned_field bytes else (is_point byte && list_all is_ascii_digit bytes)

-- whether the bytes are a value field but for its length: a sign, digits, a point and digits, each of which may be missing
abbrev pub is_field_text : List ℕ → Bool
is_field_text [] = true
is_field_text (byte ∷ bytes) = if is_sign byte then is_unsigned_field bytes else is_unsigned_field (byte ∷ bytes)

-- The test for a value field, byte after byte. The contract of `is_field` says that it is `IsField`.
abbrev pub is_value_field : List ℕ → Bool
is_value_field bytes = is_field_text bytes && nat_le (length bytes) longest_field
