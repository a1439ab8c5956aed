-- The language that a PJL line enters (PJL Technical Reference Manual, the ENTER command).
use Prim.Native.Char.{code}
use Rattle.std.specs.Prelude.{ℕ, ◌-◌, Bool, false, ◌==◌, ◌&&◌, ◌||◌, not, if◌then◌else◌, List, [], ◌∷◌, length, map, take, drop, codes, bytes_eq}
use Rattle.std.specs.List.{prefix_len, suffix_len, before_first, after_first, ends_with}
use Rattle.std.specs.Bool.{nat_eq}
use Rattle.std.specs.Char.{to_ascii_uppercase}
use Rattle.press_cmd.specs.Token.{pjl_mark}
use Rattle.press_cmd.specs.ParserState.{ParserState, Exit, OtherLanguage, Pcl}

-- a space or a tab
abbrev pub is_white : ℕ → Bool
is_white byte = (byte == code " ") || (byte == code "\t")

-- without the white space at the front
abbrev pub trimmed_prefix : List ℕ → List ℕ
trimmed_prefix bytes = drop (prefix_len is_white bytes) bytes

-- without the white space at the end
abbrev pub trimmed_end : List ℕ → List ℕ
trimmed_end bytes = take (length bytes - suffix_len is_white bytes) bytes

-- without the white space at both ends
abbrev pub trimmed : List ℕ → List ℕ
trimmed bytes = trimmed_end (trimmed_prefix bytes)

-- in upper case; other bytes than letters of ASCII stay
abbrev pub raised : List ℕ → List ℕ
raised bytes = map to_ascii_uppercase bytes

-- without the byte at the end, if it stands there
abbrev pub without_end : ℕ → List ℕ → List ℕ
without_end byte bytes = if ends_with nat_eq bytes (byte ∷ []) then take (length bytes - 1) bytes else bytes

-- what stands in a PJL line after `@PJL`: its line feed, and one carriage return before that, are no part of it
abbrev pub line_text : List ℕ → List ℕ
line_text line = drop (length pjl_mark) (without_end 13 (without_end 10 line))

-- whether white space stands at the front
abbrev pub begins_white : List ℕ → Bool
begins_white [] = false
begins_white (byte ∷ _) = is_white byte

-- the command word of a line: after the white space that follows `@PJL`, up to the next white space or the end
abbrev pub command_word : List ℕ → List ℕ
command_word line = before_first is_white (trimmed_prefix (line_text line))

-- what stands after the command word
abbrev pub command_rest : List ℕ → List ℕ
command_rest line = after_first is_white (trimmed_prefix (line_text line))

-- an equals sign
abbrev pub is_equals : ℕ → Bool
is_equals byte = byte == code "="

-- the name before the first equals sign, and the value after it, both without white space round them
abbrev pub name_of : List ℕ → List ℕ
name_of line = trimmed (before_first is_equals (command_rest line))

abbrev pub assigned_value : List ℕ → List ℕ
assigned_value line = trimmed (after_first is_equals (command_rest line))

-- whether the line is ENTER LANGUAGE=x with x not empty, in letters of either case
abbrev pub enters_language : List ℕ → Bool
enters_language line =
    begins_white (line_text line) && (bytes_eq (raised (command_word line)) (codes "ENTER")
    && (bytes_eq (raised (name_of line)) (codes "LANGUAGE") && not (length (assigned_value line) == 0)))

-- The mode after a line: Pcl or OtherLanguage where it enters PCL or another language, else Exit.
abbrev pub mode_after : List ℕ → ParserState
mode_after line =
    if enters_language line
    then (if bytes_eq (raised (assigned_value line)) (codes "PCL") then Pcl else OtherLanguage)
    else Exit
