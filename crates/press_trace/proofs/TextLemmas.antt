-- Texts of JSON in which nothing is escaped.
use Rattle.std.proofs.Common.{◌≡◌, ◌∙◌, ◌<◌, ◌≤◌, ◌/◌, ◌%◌, ◌++◌, ℕ, suc, List, [], ◌∷◌, true, get_or, length, slice_index, refl, sym, ap, append_assoc, append-nil, add-one, arith, drop, ◌+◌, encode_utf8}
use Rattle.std.specs.Prelude.{nat_lt}
use Rattle.std.specs.List.{list_all}
use Rattle.std.proofs.lemmas.Bool.{and_parts, ltb-true, le-ltb}
use Rattle.std.proofs.Math.Seq.{drop-cons}
use Rattle.std.proofs.lemmas.List.{drop_all}
use Rattle.std.proofs.lemmas.Str.{encode_ascii}
use Rattle.hex.specs.Hex.{encode_upper, encode_with, upper_digits}
use Rattle.json.specs.Print.{escape, escape_byte, escape_letter, quoted}
use Rattle.press_trace.specs.Texts.{text_of}
use Rattle.press_trace.specs.Unescaped.{is_unescaped}

-- what a byte that stands for itself is not
record Unescaped (byte : ℕ) : Type 0 where
  most : 32 ≤ byte
  least : byte < 127
  quote : byte ≡ 34 → ⊥
  slash : byte ≡ 92 → ⊥

is_so : (byte : ℕ) → is_unescaped byte ≡ true → Unescaped byte
is_so byte plain = grind arith

no_letter : (byte : ℕ) → Unescaped byte → escape_letter byte ≡ 0
no_letter byte so = grind arith

escape_unescaped : (byte : ℕ) → Unescaped byte → escape_byte byte ≡ byte ∷ []
unfolding escape_byte
escape_unescaped byte so = rw (no_letter byte so, le-ltb byte 32 so.most) refl

utf8_unescaped : (byte : ℕ) → Unescaped byte → encode_utf8 byte ≡ byte ∷ []
utf8_unescaped byte so = encode_ascii byte (omega (arith, so.least))

-- a text of such bytes is spelled as it is
pub quoted_unescaped : (bytes : List ℕ) → list_all is_unescaped bytes ≡ true → quoted (text_of bytes) ≡ 34 ∷ (bytes ++ 34 ∷ [])
quoted_unescaped bytes plain = ap (λ text. 34 ∷ (text ++ 34 ∷ [])) (escaped bytes plain)
  where
    escaped : (bytes : List ℕ) → list_all is_unescaped bytes ≡ true → escape (text_of bytes) ≡ bytes
    escaped [] plain = refl
    escaped (byte ∷ bytes) plain =
        let parts = and_parts (is_unescaped byte) (list_all is_unescaped bytes) plain in
        let so = is_so byte parts.0 in
        ap (λ text. escape (text ++ text_of bytes)) (utf8_unescaped byte so)
        ∙ (λ i. escape_unescaped byte so i ++ escaped bytes parts.1 i)

-- each digit does
digit_unescaped : (n : ℕ) → n < 16 → is_unescaped (slice_index upper_digits n) ≡ true
digit_unescaped n small = grind arith

-- bytes in hexadecimal are spelled as they are
pub quoted_digits : (bytes : List ℕ) → ((i : ℕ) → get_or bytes i 0 < 256) → quoted (encode_upper bytes) ≡ 34 ∷ (encode_upper bytes ++ 34 ∷ [])
unfolding encode_with
quoted_digits bytes small = ap (λ text. 34 ∷ (text ++ 34 ∷ [])) (escaped bytes small)
  where
    escaped : (bytes : List ℕ) → ((i : ℕ) → get_or bytes i 0 < 256) → escape (encode_upper bytes) ≡ encode_upper bytes
    escaped [] small = refl
    escaped (byte ∷ bytes) small =
        let high : Unescaped (slice_index upper_digits (byte / 16)) = is_so _ (digit_unescaped (byte / 16) (omega (arith, small 0))) in
        let low : Unescaped (slice_index upper_digits (byte % 16)) = is_so _ (digit_unescaped (byte % 16) (omega arith)) in
        λ i. escape_unescaped (slice_index upper_digits (byte / 16)) high i ++ (escape_unescaped (slice_index upper_digits (byte % 16)) low i ++ escaped bytes (λ i. small (suc i)) i)

-- the digits of a byte, and those of others behind it
pub digits_of_one : (byte : ℕ) → encode_upper (byte ∷ []) ≡ slice_index upper_digits (byte / 16) ∷ slice_index upper_digits (byte % 16) ∷ []
unfolding encode_with
digits_of_one byte = refl

pub more_digits : (byte : ℕ) (bytes : List ℕ) → encode_upper (byte ∷ bytes) ≡ encode_upper (byte ∷ []) ++ encode_upper bytes
unfolding encode_with
more_digits byte bytes = refl

-- the digits of one byte more, and of all
pub digits_more : (bytes text new whole : List ℕ) (i : ℕ) → i < length bytes → new ≡ text ++ encode_upper (get_or bytes i 0 ∷ []) → text ++ encode_upper (drop i bytes) ≡ whole
    → new ++ encode_upper (drop (i + 1) bytes) ≡ whole
digits_more bytes text new whole i within appended is =
    let byte : ℕ = get_or bytes i 0 in
    (λ j. appended j ++ encode_upper (drop (add-one i j) bytes))
    ∙ append_assoc text (encode_upper (byte ∷ [])) (encode_upper (drop (suc i) bytes))
    ∙ ap (λ digits. text ++ digits) (sym (more_digits byte (drop (suc i) bytes)) ∙ ap encode_upper (sym (drop-cons bytes i 0 within)))
    ∙ is

pub digits_all : (bytes old text new : List ℕ) (i : ℕ) → length bytes ≤ i → ((i : ℕ) → get_or bytes i 0 < 256) → text ++ encode_upper (drop i bytes) ≡ old ++ 34 ∷ encode_upper bytes
    → new ≡ text ++ 34 ∷ [] → new ≡ old ++ quoted (encode_upper bytes)
unfolding encode_with
digits_all bytes old text new i end small is closed =
    let none : drop i bytes ≡ [] = drop_all i bytes end in
    closed
    ∙ ap (λ text. text ++ 34 ∷ []) (sym (append-nil text) ∙ ap (λ rest. text ++ encode_upper rest) (sym none) ∙ is)
    ∙ append_assoc old (34 ∷ encode_upper bytes) (34 ∷ [])
    ∙ ap (λ text. old ++ text) (sym (quoted_digits bytes small))

-- characters of ASCII are their bytes
pub ascii_text : (text : List ℕ) → list_all (λ byte. nat_lt byte 128) text ≡ true → text_of text ≡ text
ascii_text [] ascii = refl
ascii_text (byte ∷ text) ascii =
    let parts = and_parts (nat_lt byte 128) (list_all (λ byte. nat_lt byte 128) text) ascii in
    λ i. encode_ascii byte (ltb-true byte 128 parts.0) i ++ ascii_text text parts.1 i

-- ---- what two and three calls append

pub both : {A : Type 0} (old one two a b : List A) → one ≡ old ++ a → two ≡ one ++ b → two ≡ old ++ (a ++ b)
both old one two a b first second = second ∙ ap (λ text. text ++ b) first ∙ append_assoc old a b

pub all_three : {A : Type 0} (old one two three a b c : List A) → one ≡ old ++ a → two ≡ one ++ b → three ≡ two ++ c → three ≡ old ++ (a ++ (b ++ c))
all_three old one two three a b c first second third = grind (arith, both)

pub all_four : {A : Type 0} (old one two three four a b c d : List A) → one ≡ old ++ a → two ≡ one ++ b → three ≡ two ++ c → four ≡ three ++ d
    → four ≡ old ++ (a ++ (b ++ (c ++ d)))
all_four old one two three four a b c d first second third fourth = grind (arith, both)

pub all_five : {A : Type 0} (old one two three four five a b c d e : List A) → one ≡ old ++ a → two ≡ one ++ b → three ≡ two ++ c → four ≡ three ++ d → five ≡ four ++ e
    → five ≡ old ++ (a ++ (b ++ (c ++ (d ++ e))))
all_five old one two three four five a b c d e first second third fourth fifth = grind (arith, both)

pub all_seven : {A : Type 0} (old one two three four five six seven a b c d e f g : List A) → one ≡ old ++ a → two ≡ one ++ b → three ≡ two ++ c → four ≡ three ++ d
    → five ≡ four ++ e → six ≡ five ++ f → seven ≡ six ++ g → seven ≡ old ++ (a ++ (b ++ (c ++ (d ++ (e ++ (f ++ g))))))
all_seven old one two three four five six seven a b c d e f g p q r s t u v = grind (arith, both)

-- the same of lists that end with none
pub all_four_ended : {A : Type 0} (old one two three four a b c d : List A) → one ≡ old ++ a → two ≡ one ++ b → three ≡ two ++ c → four ≡ three ++ d
    → four ≡ old ++ (a ++ (b ++ (c ++ (d ++ []))))
all_four_ended old one two three four a b c d first second third fourth = grind (arith, all_four, append-nil)

pub all_five_ended : {A : Type 0} (old one two three four five a b c d e : List A) → one ≡ old ++ a → two ≡ one ++ b → three ≡ two ++ c → four ≡ three ++ d → five ≡ four ++ e
    → five ≡ old ++ (a ++ (b ++ (c ++ (d ++ (e ++ [])))))
all_five_ended old one two three four five a b c d e first second third fourth fifth = grind (arith, all_five, append-nil)
