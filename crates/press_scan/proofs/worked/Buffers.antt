-- Worked numbers of the scanner, computed: how much it takes and holds, and which command one byte is.
use Rattle.std.proofs.Common.{◌≡◌, ◌+◌, ◌*◌, ℕ, List, length, min, true, false, [], ◌∷◌, ap, refl}
use Rattle.press_cmd.specs.Token.{Control, Text, ForeignByte}
use Rattle.press_cmd.specs.ParserState.{Exit, OtherLanguage, Pcl, Open}
use Rattle.press_scan.specs.ScannerState.{ScannerState, buffer_size, least_free, taken}
use Rattle.press_scan.specs.Sequences.{longest_rest}
use Rattle.press_scan.specs.Lines.{longest_text}
use Rattle.press_scan.specs.Passing.{byte_command, is_plain}
use Rattle.press_scan.specs.Gives.{mode_behind}

-- twice 64 KB; a rest is ESC, character, group, a field of 32 bytes, its end, and 65,534 bytes of data
pub the_buffer : buffer_size ≡ 128 * 1024
the_buffer = refl

pub the_longest_rest : longest_rest ≡ 3 + 32 + 1 + 65534
the_longest_rest = refl

-- so what is free is what a rest leaves
pub free_behind_a_rest : least_free + longest_rest ≡ buffer_size
free_behind_a_rest = refl

-- a line has 4,096 bytes at most, four of them @PJL
pub of_a_line : longest_text ≡ 4092
of_a_line = refl

-- three bytes where there is room for two; none after the end of input
abbrev almost_full : ScannerState
almost_full = record { mode = Pcl; bytes = 27 ∷ 42 ∷ []; ended = false; room = 4 }

pub as_many_as_fit : taken almost_full (1 ∷ 2 ∷ 3 ∷ []) ≡ 2
as_many_as_fit = refl

pub none_after_the_end : taken (record almost_full { ended = true }) (1 ∷ 2 ∷ 3 ∷ []) ≡ 0
none_after_the_end = refl

-- 200,000 bytes at once where nothing is held
abbrev empty : ScannerState
empty = record { mode = Exit; bytes = []; ended = false; room = buffer_size }

pub of_200000 : (piece : List ℕ) → length piece ≡ 200000 → taken empty piece ≡ 131072
of_200000 piece long = ap (λ (count : ℕ). min count 131072) long

-- one byte by itself: 31 is a control character, 32 is text; in another language both are its bytes
pub control_31 : byte_command Pcl 31 ≡ Control 31
control_31 = refl

pub text_32 : byte_command Pcl 32 ≡ Text 32
text_32 = refl

pub foreign_31 : byte_command OtherLanguage 31 ≡ ForeignByte 31
foreign_31 = refl

-- the escape character is passed over nowhere, and controls only where they may be
pub escape_with_controls : is_plain true 27 ≡ false
escape_with_controls = refl

pub line_feed_with_controls : is_plain true 10 ≡ true
line_feed_with_controls = refl

pub line_feed_without : is_plain false 10 ≡ false
line_feed_without = refl

-- behind what closes a rest another language goes on, and all else is PCL
pub behind_another_language : mode_behind OtherLanguage ≡ OtherLanguage
behind_another_language = refl

pub behind_a_sequence : mode_behind (Open 42 112) ≡ Pcl
behind_a_sequence = refl

pub behind_an_exit : mode_behind Exit ≡ Pcl
behind_an_exit = refl
