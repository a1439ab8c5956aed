-- The test for a value field says `IsField`, and prefixes of value fields are value fields.
use Rattle.std.proofs.Common.{◌≡◌, ◌&&◌, ℕ, List, [], ◌∷◌, ◌++◌, length, Bool, true, false, cond, Option, Some, None, IfSome, option_to_list, refl, ap, arith, length-append}
use Rattle.std.specs.List.{All, AllByRecursion, list_all}
use Rattle.std.specs.Char.{IsAsciiDigit, is_ascii_digit}
use Rattle.std.proofs.lemmas.Bool.{and_parts, and_from, leb-true, eqb-true}
use Rattle.std.proofs.lemmas.Bool.Decides.{nat_tests}
use Rattle.std.proofs.lemmas.List.Elements.{recursion_from_All, All-from_recursion, All-nil}
use Rattle.press_units.specs.Field.{Parts, AreParts, IsSign, spelling, fraction_bytes, IsField, is_sign, is_point, is_field_byte, is_unsigned_field, is_field_text, longest_field, is_value_field}

-- What is a digit passes the test for one.
pub digit-from : (b : ℕ) → IsAsciiDigit b → is_ascii_digit b ≡ true
digit-from b h = grind (arith, nat_tests)

digits-true : (bs : List ℕ) → list_all is_ascii_digit bs ≡ true → AllByRecursion IsAsciiDigit bs
digits-true [] h = tt
digits-true (b ∷ bs) h = let p = and_parts (is_ascii_digit b) (list_all is_ascii_digit bs) h in (grind (arith, nat_tests, p.0), digits-true bs p.1)

digits-from : (bs : List ℕ) → AllByRecursion IsAsciiDigit bs → list_all is_ascii_digit bs ≡ true
digits-from [] h = refl
digits-from (b ∷ bs) h = and_from (is_ascii_digit b) (list_all is_ascii_digit bs) (digit-from b h.0) (digits-from bs h.1)

digits-prefix : (f z : List ℕ) → list_all is_ascii_digit (f ++ z) ≡ true → list_all is_ascii_digit f ≡ true
digits-prefix [] z h = refl
digits-prefix (b ∷ f) z h = let p = and_parts (is_ascii_digit b) (list_all is_ascii_digit (f ++ z)) h in and_from _ _ p.0 (digits-prefix f z p.1)

digits-byte : (f : List ℕ) (b : ℕ) (z : List ℕ) → list_all is_ascii_digit (f ++ (b ∷ z)) ≡ true → is_ascii_digit b ≡ true
digits-byte [] b z h = (and_parts (is_ascii_digit b) (list_all is_ascii_digit z) h).0
digits-byte (x ∷ f) b z h = digits-byte f b z (and_parts (is_ascii_digit x) (list_all is_ascii_digit (f ++ (b ∷ z))) h).1

-- digits, and a point with digits
record Unsigned (bs : List ℕ) : Type 0 where
  whole : List ℕ
  fraction : Option (List ℕ)
  spelled : bs ≡ whole ++ fraction_bytes fraction
  whole_digits : AllByRecursion IsAsciiDigit whole
  fraction_digits : IfSome fraction (All IsAsciiDigit)

unsigned-at : (b : ℕ) (bs : List ℕ) (t : Bool) → is_ascii_digit b ≡ t
    → cond t (is_unsigned_field bs) (is_point b && list_all is_ascii_digit bs) ≡ true → (is_unsigned_field bs ≡ true → Unsigned bs)
    → Unsigned (b ∷ bs)
unsigned-at b bs true e h ih =
    let r = ih h in
    record { whole = b ∷ r.whole; fraction = r.fraction; spelled = ap (λ x. b ∷ x) r.spelled; whole_digits = (grind (arith, nat_tests), r.whole_digits); fraction_digits = r.fraction_digits }
unsigned-at b bs false e h ih =
    let p = and_parts (is_point b) (list_all is_ascii_digit bs) h in
    record { whole = []; fraction = Some bs; spelled = ap (λ x. x ∷ bs) (eqb-true b 46 p.0); whole_digits = tt; fraction_digits = All-from_recursion IsAsciiDigit bs (digits-true bs p.1) }

unsigned-true : (bs : List ℕ) → is_unsigned_field bs ≡ true → Unsigned bs
unsigned-true [] h = record { whole = []; fraction = None; spelled = refl; whole_digits = tt; fraction_digits = tt }
unsigned-true (b ∷ bs) h = unsigned-at b bs (is_ascii_digit b) refl h (unsigned-true bs)

unsigned-from : (whole : List ℕ) (fraction : Option (List ℕ)) → AllByRecursion IsAsciiDigit whole → IfSome fraction (All IsAsciiDigit) → is_unsigned_field (whole ++ fraction_bytes fraction) ≡ true
unsigned-from [] None d f = refl
unsigned-from [] (Some bs) d f = digits-from bs (recursion_from_All IsAsciiDigit bs f)
unsigned-from (b ∷ bs) fraction d f = rw (digit-from b d.0) (unsigned-from bs fraction d.1 f)

-- the parts of a field
record Spelled (bs : List ℕ) : Type 0 where
  parts : Parts
  are : AreParts parts
  spelled : bs ≡ spelling parts

text-at : (b : ℕ) (bs : List ℕ) (t : Bool) → is_sign b ≡ t → cond t (is_unsigned_field bs) (is_unsigned_field (b ∷ bs)) ≡ true → Spelled (b ∷ bs)
text-at b bs true e h =
    let u = unsigned-true bs h in
    record {
      parts = record { sign = Some b; whole = u.whole; fraction = u.fraction };
      are = record { sign = grind (arith, nat_tests); whole = All-from_recursion IsAsciiDigit u.whole u.whole_digits; fraction = u.fraction_digits };
      spelled = ap (λ x. b ∷ x) u.spelled;
    }
text-at b bs false e h =
    let u = unsigned-true (b ∷ bs) h in
    record {
      parts = record { sign = None; whole = u.whole; fraction = u.fraction };
      are = record { sign = tt; whole = All-from_recursion IsAsciiDigit u.whole u.whole_digits; fraction = u.fraction_digits };
      spelled = u.spelled;
    }

text-true : (bs : List ℕ) → is_field_text bs ≡ true → Spelled bs
text-true [] h = record { parts = record { sign = None; whole = []; fraction = None }; are = record { sign = tt; whole = All-nil IsAsciiDigit; fraction = tt }; spelled = refl }
text-true (b ∷ bs) h = text-at b bs (is_sign b) refl h

text-from : (sign : Option ℕ) (whole : List ℕ) (fraction : Option (List ℕ)) → IfSome sign IsSign → AllByRecursion IsAsciiDigit whole → IfSome fraction (All IsAsciiDigit)
    → is_field_text (option_to_list sign ++ (whole ++ fraction_bytes fraction)) ≡ true
text-from sign whole fraction g d f = grind (arith, unsigned-from)

-- the test is a value field
pub IsField-from_test : (bs : List ℕ) → is_value_field bs ≡ true → IsField bs
IsField-from_test bs h =
    let p = and_parts (is_field_text bs) _ h in
    let s = text-true bs p.0 in
    (s.parts, s.are, s.spelled, leb-true (length bs) longest_field p.1)

pub test-from_IsField : (bs : List ℕ) → IsField bs → is_value_field bs ≡ true
test-from_IsField bs f = grind (arith, text-from, recursion_from_All)

-- what is true exactly of value fields is the test
pub decides-test : (bs : List ℕ) (b : Bool) → (b ≡ true → IsField bs) → (IsField bs → b ≡ true) → b ≡ is_value_field bs
decides-test bs b to from = grind (arith, test-from_IsField, IsField-from_test)

-- prefixes

unsigned-prefix : (f z : List ℕ) → is_unsigned_field (f ++ z) ≡ true → is_unsigned_field f ≡ true
unsigned-prefix [] z h = refl
unsigned-prefix (b ∷ f) z h = grind (arith, digits-prefix, unsigned-prefix f z)

text_prefix-at : (b : ℕ) (f z : List ℕ) (t : Bool) → cond t (is_unsigned_field (f ++ z)) (is_unsigned_field (b ∷ (f ++ z))) ≡ true → cond t (is_unsigned_field f) (is_unsigned_field (b ∷ f)) ≡ true
text_prefix-at b f z true h = unsigned-prefix f z h
text_prefix-at b f z false h = unsigned-prefix (b ∷ f) z h

text-prefix : (f z : List ℕ) → is_field_text (f ++ z) ≡ true → is_field_text f ≡ true
text-prefix f z h = grind (arith, text_prefix-at)

-- A prefix of a value field is a value field.
pub test-prefix : (f z : List ℕ) → is_value_field (f ++ z) ≡ true → is_value_field f ≡ true
test-prefix f z h = grind (arith, text-prefix, length-append)

unsigned-byte : (f : List ℕ) (b : ℕ) (z : List ℕ) → is_unsigned_field (f ++ (b ∷ z)) ≡ true → is_field_byte b ≡ true
unsigned-byte [] b z h = grind arith
unsigned-byte (x ∷ f) b z h = grind (arith, digits-byte, unsigned-byte f b z)

text_byte-at : (x : ℕ) (f : List ℕ) (b : ℕ) (z : List ℕ) (t : Bool) → cond t (is_unsigned_field (f ++ (b ∷ z))) (is_unsigned_field (x ∷ (f ++ (b ∷ z)))) ≡ true → is_field_byte b ≡ true
text_byte-at x f b z true h = unsigned-byte f b z h
text_byte-at x f b z false h = unsigned-byte (x ∷ f) b z h

text-byte : (f : List ℕ) (b : ℕ) (z : List ℕ) → is_field_text (f ++ (b ∷ z)) ≡ true → is_field_byte b ≡ true
text-byte [] b z h = grind arith
text-byte (x ∷ f) b z h = text_byte-at x f b z (is_sign x) h

-- Every byte of a value field is a sign, a digit or a point.
pub test-byte : (f : List ℕ) (b : ℕ) (z : List ℕ) → is_value_field (f ++ (b ∷ z)) ≡ true → is_field_byte b ≡ true
test-byte f b z h = text-byte f b z (and_parts (is_field_text (f ++ (b ∷ z))) _ h).0
