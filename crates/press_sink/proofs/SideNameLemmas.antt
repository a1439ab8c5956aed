-- Numbers from 1 on as they are written, and names with one of these between two parts.
use Rattle.std.proofs.Common.{◌≡◌, ◌≢◌, ◌↔◌, ℕ, ◌+◌, ◌-◌, ◌*◌, ◌<◌, zero, suc, List, [], ◌∷◌, ◌++◌, length, map, Bool, false, IsTrue, refl, arith, append_assoc, slice_index_or, rules}
use Rattle.std.specs.List.{All}
use Rattle.std.specs.Char.{IsAsciiDigit}
use Rattle.std.specs.Int.Digits.{digits_of, number_from_digits_after, AllBelowBase}
use Rattle.std.proofs.lemmas.Int.Digits.{digits_of_step, first_digits_of, all_below_base_digits_of}
use Rattle.press_sink.specs.Template.{IsWritten}

-- the value of a digit, and the digit of a value
abbrev value : ℕ → ℕ
value digit = digit - 48

abbrev digit_of : ℕ → ℕ
digit_of value = 48 + value

-- one more digit behind a number
push : (number digit : ℕ) → 0 < number → digit < 10 → digits_of 10 (number * 10 + digit) ≡ digits_of 10 number ++ (digit ∷ [])
push number digit some small = grind (arith, digits_of_step)

-- the first digit alone
alone : (digit : ℕ) → 0 < digit → digit < 10 → digits_of 10 digit ≡ digit ∷ []
alone digit some small = grind (arith, digits_of_step)

-- more digits behind a number
pushes : (number : ℕ) (digits : List ℕ) → 0 < number → AllBelowBase 10 digits
    → (digits_of 10 (number_from_digits_after 10 number digits) ≡ digits_of 10 number ++ digits) × (0 < number_from_digits_after 10 number digits)
pushes number [] some below = (search rules, some)
pushes number (digit ∷ digits) some below = grind (arith, push, append_assoc, pushes (number * 10 + digit) digits (omega arith) below.1)

-- the values of digits are below 10
values-below : (text : List ℕ) → All IsAsciiDigit text → AllBelowBase 10 (map value text)
values-below [] all = tt
values-below (digit ∷ text) all =
    let first = all 0 0 (omega arith) in
    (omega arith, values-below text (λ k d l. all (suc k) d (omega arith)))

-- the digits of their values are they
values-back : (text : List ℕ) → All IsAsciiDigit text → map digit_of (map value text) ≡ text
values-back [] all = refl
values-back (digit ∷ text) all =
    grind (arith, all 0 0 (omega arith), values-back text (λ k d l. all (suc k) d (omega arith)))

-- digits, the first of which is no 0, are a number from 1 on
pub digits-written : (text : List ℕ) → 0 < length text → slice_index_or text 0 0 ≢ 48 → All IsAsciiDigit text → IsWritten text
digits-written [] some first all = absurd (omega arith)
digits-written (digit ∷ text) some first all =
    let range = all 0 0 (omega arith) in
    let start : 0 < value digit = omega arith in
    let rest : All IsAsciiDigit text = λ k d l. all (suc k) d (omega arith) in
    let more = pushes (value digit) (map value text) start (values-below text rest) in
    let whole : digits_of 10 (number_from_digits_after 10 (value digit) (map value text)) ≡ map value (digit ∷ text) = grind (arith, more.0, alone (value digit) start (omega arith)) in
    (number_from_digits_after 10 (value digit) (map value text), omega (arith, more.1), grind (arith, whole, values-back (digit ∷ text) all))

-- the digits of values below 10 are digits
digits-all : (values : List ℕ) → AllBelowBase 10 values → All IsAsciiDigit (map digit_of values)
digits-all [] below k d l = absurd (omega arith)
digits-all (x ∷ values) below zero d l = let small = below.0 in (omega arith, omega arith)
digits-all (x ∷ values) below (suc k) d l = digits-all values below.1 k d (omega arith)

-- the first of them is no 0, where that of the values is none
digits-first : (values : List ℕ) → 0 < slice_index_or values 0 0
    → (0 < length (map digit_of values)) × (slice_index_or (map digit_of values) 0 0 ≢ 48)
digits-first [] first = absurd (omega arith)
digits-first (x ∷ values) first = (omega arith, λ e. omega arith)

-- a number from 1 on is digits, the first of which is no 0
pub written-digits : (text : List ℕ) → IsWritten text → (0 < length text) × (slice_index_or text 0 0 ≢ 48) × All IsAsciiDigit text
written-digits text h1 = grind (arith, digits-first, first_digits_of, digits-all, all_below_base_digits_of)

-- where an answer tells whether all bytes of a text are digits, it tells whether the text is a number from 1 on, if its first byte is no 0
pub tells-written : (text bytes : List ℕ) (first : ℕ) (answer : Bool) → bytes ≡ text → 0 < length bytes
    → first ≡ slice_index_or bytes 0 0 → first ≢ 48 → (IsTrue answer ↔ All IsAsciiDigit bytes) → IsTrue answer ↔ IsWritten text
tells-written text bytes first answer same some is other tells = grind (arith, digits-written, written-digits)

-- no text is a number from 1 on whose bytes are none or begin with 0
pub refuses-written : (text bytes : List ℕ) (answer : Bool) → bytes ≡ text
    → ((0 < length bytes) × (slice_index_or bytes 0 0 ≢ 48) → ⊥) → answer ≡ false → IsTrue answer ↔ IsWritten text
refuses-written text bytes answer same none never = grind (arith, written-digits)
