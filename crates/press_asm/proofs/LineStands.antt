-- The line of a command stands for the command, and is printable.
use mathlib.Core.Logic.{∥∥₁_elim}
use Rattle.std.proofs.Math.Bool.{Bool-set}
use Rattle.std.proofs.Common.{◌≡◌, ◌∙◌, ◌<◌, ◌≤◌, ◌&&◌, ℕ, zero, suc, List, [], ◌∷◌, ◌++◌, Bool, cond, true, false, not, length, eqb, refl, sym, ap, subst, arith, append_assoc}
use Rattle.std.specs.Prelude.{codes, Option, Some, None}
use Rattle.std.specs.Option.{ForSome}
use Rattle.std.specs.List.{list_all}
use Rattle.std.specs.Int.{IsInRange}
use Rattle.std.specs.Str.{IsAscii}
use Rattle.std.proofs.lemmas.Bool.{and_parts, not-true, ne_eqb}
use Rattle.std.proofs.lemmas.Bool.Decides.{nat_tests}
use Rattle.std.proofs.lemmas.Str.{IsUtf8-from_ascii}
use Rattle.std.proofs.lemmas.Str.Ascii.{IsAscii-nil}
use Rattle.std.proofs.lemmas.List.Folds.{list_all-append}
use Rattle.std.proofs.lemmas.List.Sums.{list_all-from_AllPass}
use Rattle.hex.specs.Hex.{is_hex_digit, encode_upper, IsBytes}
use Rattle.hex.proofs.HexLemmas.{decode_of-ok, decode_of-encode_upper}
use Rattle.press_units.specs.Field.{is_field_byte, is_value_field}
use Rattle.press_units.specs.Value.{tenthousandths_of, whole_part}
use Rattle.press_units.proofs.FieldTest.{IsField-from_test, test-byte}
use Rattle.press_units.specs.Ascii.{is_printable}
use Rattle.press_cmd.specs.Token.{Token, Escape, Ungrouped, Control, Text, Broken, Uel, PjlLine, ForeignByte, uel, bytes_of, param_of, broken_of, data_of}
use Rattle.press_cmd.specs.Carried.{data_count, count_of}
use Rattle.press_cmd.specs.Grammar.{IsEscapeEnd, IsControl, IsText, IsCharacter, IsGroup, IsEnd, IsPjlLine, IsBroken}
use Rattle.press_cmd.specs.View.{token, param_token, broken_token}
use Rattle.press_cmd.specs.declared.command.Command.{Command}
use Rattle.press_cmd.specs.declared.payload.Param.{Param}
use Rattle.press_cmd.specs.declared.payload.Broken.{Broken as BrokenBytes}
use Rattle.press_cmd.proofs.ByteTests.{range-from}
use Rattle.press_asm.specs.Form.{Form, ExitForm, EscapeForm, ParamForm, ControlForm, TextForm, ForeignForm, BrokenForm, LineForm, is_no_space, word, spaced, IsWord, Spells, Means}
use Rattle.press_asm.specs.Written.{written_line, IsWritten, beginning}
use Rattle.press_asm.proofs.Digits.{digits_first}

-- ---- bytes of a field, and digits

field_byte-range : (b : ℕ) → is_field_byte b ≡ true → IsInRange 43 57 b
field_byte-range b h = grind (arith, nat_tests)

all_field : (done f : List ℕ) → is_value_field (done ++ f) ≡ true → list_all is_field_byte f ≡ true
all_field done [] h = refl
all_field done (b ∷ f) h = grind (arith, test-byte, all_field (done ++ (b ∷ [])) f (ap is_value_field (append_assoc done (b ∷ []) f) ∙ h))

all_along : (p q : ℕ → Bool) (xs : List ℕ) → ((b : ℕ) → p b ≡ true → q b ≡ true) → list_all p xs ≡ true → list_all q xs ≡ true
all_along p q [] f h = refl
all_along p q (b ∷ xs) f h = grind (arith, all_along p q xs f (and_parts (p b) (list_all p xs) h).1)

field_no_space : (f : List ℕ) → is_value_field f ≡ true → list_all is_no_space f ≡ true
field_no_space f h = all_along is_field_byte is_no_space f (λ b t. ap not (ne_eqb b 32 (λ e. omega (arith, field_byte-range b t, e)))) (all_field [] f h)

field_printable : (f : List ℕ) → is_value_field f ≡ true → list_all is_printable f ≡ true
field_printable f h =
    all_along is_field_byte is_printable f (λ b t. let r = field_byte-range b t in range-from 32 126 b (omega (arith, r), omega (arith, r))) (all_field [] f h)

field_no_group : (f : List ℕ) → is_value_field f ≡ true → (b : ℕ) (later : List ℕ) → f ≡ b ∷ later → IsGroup b → ⊥
field_no_group f h b later e is = grind arith

digits_all : (bytes : List ℕ) → IsBytes bytes → list_all is_hex_digit (encode_upper bytes) ≡ true
digits_all bytes h = list_all-from_AllPass is_hex_digit (encode_upper bytes) (decode_of-ok (encode_upper bytes) bytes (decode_of-encode_upper bytes h)).1

digit_printable : (b : ℕ) → is_hex_digit b ≡ true → is_printable b ≡ true
digit_printable b h = grind (arith, nat_tests)

digits_printable : (bytes : List ℕ) → IsBytes bytes → list_all is_printable (encode_upper bytes) ≡ true
digits_printable bytes h = all_along is_hex_digit is_printable (encode_upper bytes) digit_printable (digits_all bytes h)

digits_some : (bytes : List ℕ) → (bytes ≡ [] → ⊥) → encode_upper bytes ≡ [] → ⊥
digits_some [] some_ e = some_ refl
digits_some (b ∷ bytes) some_ e = cc (sym (digits_first b bytes) ∙ e)

-- ---- printable texts

both_printable : (x y : List ℕ) → list_all is_printable x ≡ true → list_all is_printable y ≡ true → list_all is_printable (x ++ y) ≡ true
both_printable x y hx hy = grind (arith, list_all-append is_printable x y, hx, hy)

one_printable : (b : ℕ) (x : List ℕ) → 32 ≤ b → b ≤ 126 → list_all is_printable x ≡ true → list_all is_printable (b ∷ x) ≡ true
one_printable b x low high h = grind (arith, range-from 32 126 b (low, high), h)

-- what is printable is text
pub line_ascii : (line : List ℕ) → list_all is_printable line ≡ true → IsAscii line
line_ascii [] h = IsAscii-nil
line_ascii (b ∷ line) h = grind (arith, line_ascii line (and_parts (is_printable b) (list_all is_printable line) h).1)

written : (command : Token) (form : Form) → Spells (written_line command) form → Means form command → list_all is_printable (written_line command) ≡ true → IsWritten command
written command form spelled means printable =
    record { stands = (form, (IsUtf8-from_ascii (written_line command) (line_ascii (written_line command) printable), spelled), means); printable = printable }

-- ---- parameters

-- a word that spells the universal exit is that of no parameter
spells : (c : ℕ) (f : List ℕ) (e : ℕ) (d : List ℕ) → length d ≡ data_count c None f e → c ∷ (f ++ (e ∷ [])) ≡ codes "%-12345X" → bytes_of (Ungrouped c f e d) ≡ uel
spells c f e d count h =
    let tail : f ++ (e ∷ []) ≡ codes "-12345X" = cc h in
    let plain = λ (b : ℕ). not (eqb b 87) in
    let all = and_parts (list_all plain f) (plain e && true) (sym (list_all-append plain f (e ∷ [])) ∙ ap (list_all plain) tail) in
    let other = not-true (eqb e 87) (and_parts (plain e) true all.1).0 in
    let none : data_count c None f e ≡ 0 = ap (λ t. cond t (count_of (whole_part (tenthousandths_of f))) 0) other in
    empty d (count ∙ none)
  where
    empty : (x : List ℕ) → length x ≡ 0 → bytes_of (Ungrouped c f e x) ≡ uel
    empty [] z = ap (λ y. 27 ∷ y) h
    empty (b ∷ x) z = absurd (omega (arith, z))

no_exit-word : (c : ℕ) (g : Option ℕ) (f : List ℕ) (e : ℕ) (d : List ℕ) → ForSome g IsGroup → length d ≡ data_count c g f e → (bytes_of (param_of c g f e d) ≡ uel → ⊥)
    → word c g f e ≡ codes "%-12345X" → ⊥
no_exit-word c g f e d group count other h = grind (arith, spells)

param_line : (c : ℕ) (g : Option ℕ) (f : List ℕ) (e : ℕ) (d : List ℕ) → written_line (param_of c g f e d) ≡ codes "par " ++ (word c g f e ++ spaced (encode_upper d))
param_line c g f e d = grind arith

pub param_written : (c : ℕ) (g : Option ℕ) (f : List ℕ) (e : ℕ) (d : List ℕ) → IsCharacter c → ForSome g IsGroup → is_value_field f ≡ true → IsEnd e
    → length d ≡ data_count c g f e → (bytes_of (param_of c g f e d) ≡ uel → ⊥) → IsBytes d → IsWritten (param_of c g f e d)
param_written c g f e d character group field end count other fits =
    let is_word : IsWord c g f e = record {
      character_class = character;
      group_class = group;
      no_group = λ b later none. field_no_group f field b later;
      one_word = field_no_space f field;
      end_class = end;
      no_exit = no_exit-word c g f e d group count other;
    } in
    written (param_of c g f e d) (ParamForm c g f e (encode_upper d)) (param_line c g f e d, is_word, digits_all d fits)
    (IsField-from_test f field, d, decode_of-encode_upper d fits, count, refl)
    (ap (list_all is_printable) (param_line c g f e d)
    ∙ both_printable (word c g f e) (spaced (encode_upper d)) (grind (arith, both_printable, field_printable, one_printable)) (grind (arith, digits_printable d fits)))

-- ---- the other commands

one_fits : (b : ℕ) → b < 256 → IsBytes (b ∷ [])
one_fits b h zero = h
one_fits b h (suc i) = omega arith

pub uel_written : IsWritten Uel
uel_written = written Uel ExitForm refl refl refl

pub escape_written : (b : ℕ) → IsEscapeEnd b → IsWritten (Escape b)
escape_written b is = written (Escape b) (EscapeForm b) (refl, is) refl (one_printable b [] (omega (arith, is)) (omega (arith, is)) refl)

pub control_written : (b : ℕ) → IsControl b → IsWritten (Control b)
control_written b is =
    let fits = one_fits b (omega (arith, is.0)) in
    written (Control b) (ControlForm b) ((encode_upper (b ∷ []), refl, decode_of-encode_upper (b ∷ []) fits), is) refl (digits_printable (b ∷ []) fits)

pub text_written : (b : ℕ) → IsText b → IsWritten (Text b)
text_written b is =
    let fits = one_fits b (omega (arith, is)) in
    written (Text b) (TextForm b) ((encode_upper (b ∷ []), refl, decode_of-encode_upper (b ∷ []) fits), is) refl (digits_printable (b ∷ []) fits)

pub foreign_written : (b : ℕ) → b < 256 → IsWritten (ForeignByte b)
foreign_written b h =
    let fits = one_fits b h in
    written (ForeignByte b) (ForeignForm b) (encode_upper (b ∷ []), refl, decode_of-encode_upper (b ∷ []) fits) refl (digits_printable (b ∷ []) fits)

no_line : (prefix : List ℕ) → prefix ++ (10 ∷ []) ≡ [] → ⊥
no_line [] e = cc
no_line (b ∷ prefix) e = cc

pub line_written : (line : List ℕ) → IsPjlLine line → IsBytes line → IsWritten (PjlLine line)
line_written line is fits =
    written (PjlLine line) (LineForm (encode_upper line)) (refl, digits_all line fits, digits_some line (λ e. no_line is.prefix (sym is.spelled ∙ e)))
    (line, decode_of-encode_upper line fits, is, refl) (digits_printable line fits)

abbrev has_some : List ℕ → Bool
has_some [] = false
has_some (b ∷ x) = true

none_broken : (x : List ℕ) → IsBroken x → x ≡ [] → ⊥
none_broken x h1 e = grind arith

broken_some : (x : List ℕ) → ∥ IsBroken x ∥₁ → x ≡ [] → ⊥
broken_some x h e =
    let some_ : has_some x ≡ true = ∥∥₁_elim h (Bool-set (has_some x) true) (λ is. grind (arith, none_broken x is)) in
    cc (sym some_ ∙ ap has_some e)

pub broken_written : (bytes : List ℕ) → ∥ IsBroken bytes ∥₁ → IsBytes bytes → IsWritten (Broken bytes)
broken_written bytes is fits =
    written (Broken bytes) (BrokenForm (encode_upper bytes)) (refl, digits_all bytes fits, digits_some bytes (broken_some bytes is))
    (bytes, decode_of-encode_upper bytes fits, refl) (digits_printable bytes fits)

-- the data of a parameter of these parts
data_is : (c : ℕ) (g : Option ℕ) (f : List ℕ) (e : ℕ) (d : List ℕ) → data_of (param_of c g f e d) ≡ d
data_is c None f e d = refl
data_is c (Some g) f e d = refl

pub param_is_written : (p : Param) (told : List ℕ) → told ≡ data_of (param_token p) → IsBytes told → IsWritten (param_token p)
param_is_written p told is fits =
    param_written p.character p.group p.field.now p.end p.payload.now p.character_class p.group_class p.value_field p.end_class p.count p.no_exit
    (subst IsBytes (is ∙ data_is p.character p.group p.field.now p.end p.payload.now) fits)

bytes_both : (x y : List ℕ) → IsBytes x → IsBytes y → IsBytes (x ++ y)
bytes_both [] y hx hy i = hy i
bytes_both (b ∷ x) y hx hy zero = hx 0
bytes_both (b ∷ x) y hx hy (suc i) = bytes_both x y (λ k. hx (suc k)) hy i

broken_parts : (s : Option (ℕ × ℕ)) (bytes : List ℕ) → broken_of s bytes ≡ Broken (beginning s ++ bytes)
broken_parts s bytes = grind arith

pub broken_is_written : (broken : BrokenBytes) (s : Option (ℕ × ℕ)) (bytes : List ℕ) → broken_of s bytes ≡ broken_token broken → IsBytes (beginning s) → IsBytes bytes
    → IsWritten (broken_token broken)
broken_is_written broken s bytes is prefix back = grind (arith, broken_parts, broken_written, bytes_both)

-- along what a command is
pub written_along : (command command' : Command) → command ≡ command' → IsWritten (token command') → IsWritten (token command)
written_along command command' is h = subst (λ (c : Command). IsWritten (token c)) (sym is) h
