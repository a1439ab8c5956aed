-- The commands of small streams, computed by reading.
use Rattle.std.proofs.Common.{◌≡◌, ℕ, zero, suc, List, [], ◌∷◌, ◌++◌, map, refl}
use Rattle.std.specs.Prelude.{codes}
use Rattle.press_cmd.specs.Token.{Token, Grouped, Control, Text, Broken, Uel, PjlLine, ForeignByte, uel}
use Rattle.press_cmd.specs.ParserState.{ParserState, Exit}
use Rattle.press_cmd.specs.Split.{closing}
use Rattle.press_cmd.proofs.Reading.{Reading, Short, Found, reading, extends, is_end, is_earlier_end, is_escape_end, is_character, is_control, is_text, is_escape, is_exit, is_feed, is_full}

-- the command that was read, and then those of what is left; or those that the rest stands for
closed_after : (ParserState → List ℕ → List Token) → ParserState → List ℕ → Reading → List Token
closed_after further mode bytes Short = closing mode bytes
closed_after further mode bytes (Found command next left) = command ∷ further next left

-- the commands of the bytes and of their rest closed, at most so many
closed_within : ℕ → ParserState → List ℕ → List Token
unfolding closed_after
closed_within zero mode bytes = []
closed_within (suc count) mode bytes = closed_after (λ next left. closed_within count next left) mode bytes (reading mode bytes)

-- ESC*p10 and a carriage return, then a form feed
pair_broken : closed_within 20 Exit (27 ∷ codes "*p10" ++ (13 ∷ 12 ∷ [])) ≡ Broken (27 ∷ codes "*p10") ∷ Control 13 ∷ Control 12 ∷ []
unfolding closed_within closed_after extends is_end is_earlier_end is_escape_end is_character is_control is_text is_escape is_exit is_feed is_full
pair_broken = refl

-- ESC*p10x20 and a carriage return: the first pair is whole
second_pair_broken : closed_within 20 Exit (27 ∷ codes "*p10x20" ++ (13 ∷ [])) ≡ Grouped 42 112 (codes "10") 88 [] ∷ Broken (27 ∷ codes "*p20") ∷ Control 13 ∷ []
unfolding closed_within closed_after extends is_end is_earlier_end is_escape_end is_character is_control is_text is_escape is_exit is_feed is_full
second_pair_broken = refl

-- a universal exit, an escape character that breaks, and then a line that is text
text_after_escape : closed_within 40 Exit (uel ++ (27 ∷ 1 ∷ codes "@PJL ECHO x\n")) ≡ Uel ∷ Broken (27 ∷ []) ∷ Control 1 ∷ (map Text (codes "@PJL ECHO x") ++ (Control 10 ∷ []))
unfolding closed_within closed_after extends is_end is_earlier_end is_escape_end is_character is_control is_text is_escape is_exit is_feed is_full
text_after_escape = refl

-- a combined sequence with two bytes of data
rows_with_data : closed_within 20 Exit (27 ∷ codes "*b1m2W" ++ (2 ∷ 240 ∷ 12 ∷ [])) ≡ Grouped 42 98 (codes "1") 77 [] ∷ Grouped 42 98 (codes "2") 87 (2 ∷ 240 ∷ []) ∷ Control 12 ∷ []
unfolding closed_within closed_after extends is_end is_earlier_end is_escape_end is_character is_control is_text is_escape is_exit is_feed is_full
rows_with_data = refl

-- another language, until the universal exit
language_and_exit : closed_within 40 Exit (codes "@PJL ENTER LANGUAGE = hpgl\r\n" ++ (27 ∷ 69 ∷ uel)) ≡ PjlLine (codes "@PJL ENTER LANGUAGE = hpgl\r\n") ∷ ForeignByte 27 ∷ ForeignByte 69 ∷ Uel ∷ []
unfolding closed_within closed_after extends is_end is_earlier_end is_escape_end is_character is_control is_text is_escape is_exit is_feed is_full
language_and_exit = refl

-- a sequence without group goes on with no lower-case character
lower_case_without_group : closed_within 20 Exit (27 ∷ codes "%1x") ≡ Broken (27 ∷ codes "%1") ∷ Text 120 ∷ []
unfolding closed_within closed_after extends is_end is_earlier_end is_escape_end is_character is_control is_text is_escape is_exit is_feed is_full
lower_case_without_group = refl

-- part of `@PJL` at the end of a stream
mark_cut_off : closed_within 20 Exit (codes "@PJ") ≡ Text 64 ∷ Text 80 ∷ Text 74 ∷ []
unfolding closed_within closed_after extends is_end is_earlier_end is_escape_end is_character is_control is_text is_escape is_exit is_feed is_full
mark_cut_off = refl

-- a stream that ends after a lower-case pair, and one that ends within the next
open_at_the_end : closed_within 20 Exit (27 ∷ codes "*p10x") ≡ Grouped 42 112 (codes "10") 88 [] ∷ []
unfolding closed_within closed_after extends is_end is_earlier_end is_escape_end is_character is_control is_text is_escape is_exit is_feed is_full
open_at_the_end = refl

-- a stream that ends within the next pair
open_cut_off : closed_within 20 Exit (27 ∷ codes "*p10x2") ≡ Grouped 42 112 (codes "10") 88 [] ∷ Broken (27 ∷ codes "*p2") ∷ []
unfolding closed_within closed_after extends is_end is_earlier_end is_escape_end is_character is_control is_text is_escape is_exit is_feed is_full
open_cut_off = refl
