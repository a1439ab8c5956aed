-- A number in decimal: its digits, and what it is as a value field.
use Rattle.std.proofs.Common.{◌≡◌, ◌<◌, ◌≤◌, ◌+◌, ◌-◌, ◌*◌, ◌%◌, ◌^◌, ℕ, List, [], ◌∷◌, ◌++◌, false, None, refl, sym, ap, ◌∙◌, arith, append-nil, length}
use Rattle.std.specs.Prelude.{pos, is_some}
use Rattle.std.specs.Char.{IsAsciiDigit}
use Rattle.std.specs.Fmt.{decimal}
use Rattle.std.specs.List.{AllByRecursion, fold}
use Rattle.std.proofs.lemmas.Fmt.{decimal_by_steps, length-decimal-le}
use Rattle.std.proofs.lemmas.List.Elements.{All-from_recursion}
use Rattle.press_units.specs.Field.{Parts, AreParts, IsField, spelling}
use Rattle.press_units.specs.Value.{number_of, parts_of, number_of_parts, tenthousandths_of, whole_part, is_signed}
use Rattle.press_units.proofs.FieldLemmas.{parts_of-spelling}

number_of-append : (digits : List ℕ) (number digit : ℕ) → fold (λ n d. 10 * n + (d - 48)) number (digits ++ digit ∷ []) ≡ 10 * fold (λ n d. 10 * n + (d - 48)) number digits + (digit - 48)
number_of-append [] number digit = refl
number_of-append (first ∷ digits) number digit = number_of-append digits (10 * number + (first - 48)) digit

digits-append : (digits : List ℕ) (digit : ℕ) → AllByRecursion IsAsciiDigit digits → IsAsciiDigit digit → AllByRecursion IsAsciiDigit (digits ++ digit ∷ [])
digits-append [] digit are is = (is, tt)
digits-append (first ∷ digits) digit (one, are) is = (one, digits-append digits digit are is)

abbrev IsDecimal : ℕ → List ℕ → Type 0
IsDecimal n digits = AllByRecursion IsAsciiDigit digits × (number_of digits ≡ n)

decimal_is : (n : ℕ) → n < 2 ^ 64 → IsDecimal n (decimal n)
decimal_is n small =
    decimal_by_steps IsDecimal
    (λ n below. (((omega arith, omega arith), tt), omega arith))
    (λ n ds above (are, is). (digits-append ds (48 + n % 10) are (omega arith, omega arith), number_of-append ds 0 (48 + n % 10) ∙ omega arith))
    n small

-- its digits, and the number that they spell
pub decimal-digits : (n : ℕ) → n < 2 ^ 64 → AllByRecursion IsAsciiDigit (decimal n)
decimal-digits n small = (decimal_is n small).0

pub number_of-decimal : (n : ℕ) → n < 2 ^ 64 → number_of (decimal n) ≡ n
number_of-decimal n small = (decimal_is n small).1

-- the parts of a field of digits alone
decimal_parts : ℕ → Parts
decimal_parts n = record { sign = None; whole = decimal n; fraction = None }

are_parts : (n : ℕ) → n < 2 ^ 64 → AreParts (decimal_parts n)
unfolding decimal_parts
are_parts n small = record { sign = tt; whole = All-from_recursion IsAsciiDigit (decimal n) (decimal-digits n small); fraction = tt }

spelled : (n : ℕ) → decimal n ≡ spelling (decimal_parts n)
unfolding decimal_parts
spelled n = sym (append-nil (decimal n))

parts_of-decimal : (n : ℕ) → n < 2 ^ 64 → parts_of (decimal n) ≡ decimal_parts n
parts_of-decimal n small = ap parts_of (spelled n) ∙ parts_of-spelling (decimal_parts n) (are_parts n small)

-- it is a value field
pub decimal-IsField : (n : ℕ) → n < 2 ^ 64 → IsField (decimal n)
decimal-IsField n small =
    let short : length (decimal n) ≤ 20 = length-decimal-le 20 n (omega arith) (omega arith) small in
    (decimal_parts n, are_parts n small, spelled n, omega (arith, short))

-- no sign stands in it
pub is_signed-decimal : (n : ℕ) → n < 2 ^ 64 → is_signed (decimal n) ≡ false
unfolding decimal_parts
is_signed-decimal n small = ap (λ (parts : Parts). is_some parts.sign) (parts_of-decimal n small)

-- its number, in ten-thousandths, and the whole part of that
pub tenthousandths_of-decimal : (n : ℕ) → n ≤ 65535 → tenthousandths_of (decimal n) ≡ pos (n * 10000)
unfolding decimal_parts
tenthousandths_of-decimal n most =
    let is : number_of (decimal n) ≡ n = number_of-decimal n (omega arith) in
    ap number_of_parts (parts_of-decimal n (omega arith)) ∙ ap pos (omega (arith, is))

pub whole_part-times : (n : ℕ) → whole_part (pos (n * 10000)) ≡ pos n
whole_part-times n = ap pos (omega arith)
