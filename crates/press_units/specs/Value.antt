-- The number that a value field stands for, in ten-thousandths
-- (PCL 5 Printer Language Technical Reference Manual, value fields; the digits kept, and that what is out of range is cut
-- to it, are this profile's).
use Rattle.std.specs.Prelude.{◌≡◌, ℕ, ℤ, pos, neg_ℤ, ◌+◌, ◌-◌, ◌*◌, ◌==◌, Bool, false, min, if◌then◌else◌, List, [], ◌∷◌, ◌++◌}
use Rattle.std.specs.Prelude.{take, drop, replicate, position, int_div, Option, Some, None, unwrap_or, is_some}
use Rattle.std.specs.Option.{option_map}
use Rattle.std.specs.List.{fold, before_first}
use Rattle.press_units.specs.Field.{Parts, AreParts, spelling, is_sign, is_point}

-- the least and the greatest value: -32767, by its magnitude, and 65535 (this profile)
abbrev pub least : ℕ
least = 32767

abbrev pub greatest : ℕ
greatest = 65535

-- both in ten-thousandths
abbrev pub lowest : ℕ
lowest = 10000 * least

abbrev pub highest : ℕ
highest = 10000 * greatest

-- the number that digits spell; no digits spell 0
abbrev pub number_of : List ℕ → ℕ
number_of digits = fold (λ number digit. 10 * number + (digit - 48)) 0 digits

-- four digits of a fraction: those past the fourth are dropped, and those that are missing are 0
abbrev pub four_digits : List ℕ → List ℕ
four_digits digits = take 4 (digits ++ replicate 4 48)

-- the number that the digits before the point and those after it make, in ten-thousandths
abbrev pub magnitude_of : List ℕ → List ℕ → ℕ
magnitude_of whole fraction = 10000 * number_of whole + number_of (four_digits fraction)

-- whether the sign is a minus
abbrev pub is_minus : Option ℕ → Bool
is_minus None = false
is_minus (Some sign) = sign == 45

-- the number with its sign: below -32767 it becomes -32767, above 65535 it becomes 65535
abbrev pub with_sign : Option ℕ → ℕ → ℤ
with_sign sign magnitude = if is_minus sign then neg_ℤ (pos (min magnitude lowest)) else pos (min magnitude highest)

-- The number that the parts of a value field stand for, in ten-thousandths.
abbrev pub number_of_parts : Parts → ℤ
number_of_parts parts = with_sign parts.sign (magnitude_of parts.whole (unwrap_or parts.fraction []))

-- the sign at the front of a text, if one stands there, and what follows it
abbrev pub sign_of : List ℕ → Option ℕ
sign_of [] = None
sign_of (byte ∷ _) = if is_sign byte then Some byte else None

abbrev pub unsigned_part : List ℕ → List ℕ
unsigned_part [] = []
unsigned_part (byte ∷ bytes) = if is_sign byte then bytes else byte ∷ bytes

-- what follows the first point, if one stands
abbrev pub fraction_of : List ℕ → Option (List ℕ)
fraction_of unsigned = option_map (λ point. drop (point + 1) unsigned) (position is_point unsigned)

-- The parts of a text: its sign, what stands before the first point, and what follows it.
abbrev pub parts_of : List ℕ → Parts
parts_of text = record {
  sign = sign_of text;
  whole = before_first is_point (unsigned_part text);
  fraction = fraction_of (unsigned_part text);
}

-- The number of a value field, in ten-thousandths, and whether a sign stands in it: those of its parts.
abbrev pub tenthousandths_of : List ℕ → ℤ
tenthousandths_of field = number_of_parts (parts_of field)

abbrev pub is_signed : List ℕ → Bool
is_signed field = is_some (parts_of field).sign

-- The number and the flag of the sign are those of the parts that spell the field, whichever these are.
abbrev pub IsNumberOf : List ℕ → ℤ → Bool → Type 0
IsNumberOf field number signed =
    (parts : Parts) → AreParts parts → field ≡ spelling parts → (number ≡ number_of_parts parts) × (signed ≡ is_some parts.sign)

-- the whole part of a number in ten-thousandths: the fraction is dropped, towards zero
abbrev pub whole_part : ℤ → ℤ
whole_part tenthousandths = int_div tenthousandths (pos 10000)
