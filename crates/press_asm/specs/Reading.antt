-- Which form a line has, read from the left: the one that it has by the grammar, where it has one.
use Rattle.std.specs.Prelude.{ℕ, ◌+◌, Bool, true, false, not, ◌==◌, ◌&&◌, if◌then◌else◌, List, [], ◌∷◌, take, drop, reverse}
use Rattle.std.specs.Prelude.{position, codes, bytes_eq, Option, Some, None, Result, Ok, option_and_then}
use Rattle.std.specs.List.{list_all}
use Rattle.std.specs.Int.{is_in_range}
use Rattle.hex.specs.Hex.{decode_sized, is_hex_digit}
use Rattle.hex.specs.declared.error.FromHexError.{FromHexError}
use Rattle.press_asm.specs.Form.{Form, Blank, ExitForm, EscapeForm, ParamForm, ControlForm, TextForm, ForeignForm, BrokenForm}
use Rattle.press_asm.specs.Form.{LineForm, is_space, exit_line, escape_name, param_name, control_name, text_name, foreign_name}
use Rattle.press_asm.specs.Form.{broken_name, line_name}

-- one or more digits
abbrev pub are_digits : List ℕ → Bool
are_digits [] = false
are_digits (digit ∷ digits) = list_all is_hex_digit (digit ∷ digits)

abbrev pub only_byte : Result (List ℕ) FromHexError → Option ℕ
only_byte (Ok (byte ∷ [])) = Some byte
only_byte _ = None

-- the byte of two digits
abbrev pub byte_of : List ℕ → Option ℕ
byte_of digits = only_byte (decode_sized digits 1)

abbrev pub escape_in : List ℕ → Option Form
escape_in (byte ∷ []) = if is_in_range 48 126 byte then Some (EscapeForm byte) else None
escape_in _ = None

abbrev pub control_form : ℕ → Option Form
control_form byte = if is_in_range 0 31 byte && not (byte == 27) then Some (ControlForm byte) else None

abbrev pub text_form : ℕ → Option Form
text_form byte = if is_in_range 32 255 byte then Some (TextForm byte) else None

abbrev pub foreign_form : ℕ → Option Form
foreign_form byte = Some (ForeignForm byte)

-- the group character at the front, if one stands there, and what follows it
abbrev pub split_group : List ℕ → Option ℕ × List ℕ
split_group [] = (None, [])
split_group (byte ∷ rest) = if is_in_range 96 126 byte then (Some byte, rest) else (None, byte ∷ rest)

-- the parameter of a character, a group, and its field and end in reverse
abbrev pub param_ending : Bool → ℕ → Option ℕ → List ℕ → List ℕ → Option Form
param_ending exit character group [] digits = None
param_ending exit character group (end ∷ field) digits =
    if not exit && (is_in_range 33 47 character && is_in_range 64 94 end) then Some (ParamForm character group (reverse field) end digits) else None

-- the parameter of a word, with these digits
abbrev pub word_in : List ℕ → List ℕ → Option Form
word_in [] digits = None
word_in (character ∷ rest) digits =
    param_ending (bytes_eq (character ∷ rest) (codes "%-12345X")) character (split_group rest).0 (reverse (split_group rest).1) digits

abbrev pub param_at : Option ℕ → List ℕ → Option Form
param_at None text = word_in text []
param_at (Some place) text = if are_digits (drop (place + 1) text) then word_in (take place text) (drop (place + 1) text) else None

abbrev pub param_in : List ℕ → Option Form
param_in text = param_at (position is_space text) text

abbrev pub broken_in : List ℕ → Option Form
broken_in digits = if are_digits digits then Some (BrokenForm digits) else None

abbrev pub line_in : List ℕ → Option Form
line_in digits = if are_digits digits then Some (LineForm digits) else None

-- what follows a name of three letters and a space
abbrev pub named_in : List ℕ → List ℕ → Option Form
named_in name rest =
    if bytes_eq name escape_name then escape_in rest
    else if bytes_eq name param_name then param_in rest
    else if bytes_eq name control_name then option_and_then control_form (byte_of rest)
    else if bytes_eq name text_name then option_and_then text_form (byte_of rest)
    else if bytes_eq name foreign_name then option_and_then foreign_form (byte_of rest)
    else if bytes_eq name broken_name then broken_in rest
    else if bytes_eq name line_name then line_in rest
    else None

abbrev pub is_blank : List ℕ → Bool
is_blank [] = true
is_blank (byte ∷ _) = byte == 59

-- the form that a line has
abbrev pub form_of : List ℕ → Option Form
form_of line =
    if is_blank line then Some Blank
    else if bytes_eq line exit_line then Some ExitForm
    else named_in (take 4 line) (drop 4 line)
