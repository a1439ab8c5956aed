-- A value field cut at its sign and its point, and its digits.
use Rattle.std.proofs.Common.{◌≡◌, ◌<◌, ◌≤◌, ◌+◌, ◌∙◌, ℕ, List, [], ◌∷◌, ◌++◌, length, drop, Bool, true, false, Option}
use Rattle.std.proofs.Common.{Some, None, IfSome, option_to_list, cond, nat_lt, get_or, refl, sym, ap, subst, arith}
use Rattle.std.specs.Prelude.{unwrap_or, ℤ}
use Rattle.std.specs.Option.{option_map}
use Rattle.std.specs.List.{All, AllByRecursion, before_first, position_or_len}
use Rattle.std.specs.Char.{IsAsciiDigit}
use Rattle.std.proofs.lemmas.Bool.{ltb-false, ltb-true, eqb-true}
use Rattle.std.proofs.lemmas.List.{take_all, take_at, drop_at, drop-drop, append-nil}
use Rattle.std.proofs.lemmas.List.Elements.{recursion_from_All}
use Rattle.std.proofs.lemmas.List.Sums.{split_at_first, passes_at_first}
use Rattle.press_units.specs.Field.{Parts, AreParts, IsSign, spelling, fraction_bytes, longest_field, IsField, is_point}
use Rattle.press_units.specs.Value.{sign_of, unsigned_part, fraction_of, parts_of, tenthousandths_of, is_signed, IsNumberOf}

-- digits stand before the point
point-after_digits : (digits : List ℕ) (fraction : Option (List ℕ)) → AllByRecursion IsAsciiDigit digits → position_or_len is_point (digits ++ fraction_bytes fraction) ≡ length digits
point-after_digits [] None h = refl
point-after_digits [] (Some fraction) h = refl
point-after_digits (digit ∷ digits) fraction h = grind (arith, point-after_digits digits fraction h.1)

-- a sign ends where digits or a point stand
no_sign : (whole : List ℕ) (fraction : Option (List ℕ)) → AllByRecursion IsAsciiDigit whole → unsigned_part (whole ++ fraction_bytes fraction) ≡ whole ++ fraction_bytes fraction
no_sign [] None h = refl
no_sign [] (Some fraction) h = refl
no_sign (digit ∷ digits) fraction h = grind arith

unsigned-spelling : (sign : Option ℕ) (whole : List ℕ) (fraction : Option (List ℕ)) → IfSome sign IsSign
    → AllByRecursion IsAsciiDigit whole
    → unsigned_part (option_to_list sign ++ (whole ++ fraction_bytes fraction)) ≡ whole ++ fraction_bytes fraction
unsigned-spelling sign whole fraction is_one digits = grind (arith, no_sign)

-- what follows the point
drop_point : (whole fraction : List ℕ) → drop (length whole + 1) (whole ++ (46 ∷ fraction)) ≡ fraction
drop_point whole fraction = grind (arith, drop-drop 1 (length whole) (whole ++ (46 ∷ fraction)), drop_at whole (46 ∷ fraction) (length whole) refl)

length-with_point : (whole fraction : List ℕ) → length whole < length (whole ++ (46 ∷ fraction))
length-with_point [] fraction = omega arith
length-with_point (digit ∷ whole) fraction = let rest = length-with_point whole fraction in omega arith

fraction_of-spelling : (whole : List ℕ) (fraction : Option (List ℕ)) → AllByRecursion IsAsciiDigit whole → fraction_of (whole ++ fraction_bytes fraction) ≡ fraction
fraction_of-spelling whole fraction digits = grind (arith, point-after_digits, append-nil, length-with_point, drop_point)

-- The parts of a text that spells parts are these.
module _ (parts : Parts) (are : AreParts parts) where
  whole_is_digits : AllByRecursion IsAsciiDigit parts.whole
  whole_is_digits = recursion_from_All _ _ are.whole

  unsigned : unsigned_part (spelling parts) ≡ parts.whole ++ fraction_bytes parts.fraction
  unsigned = unsigned-spelling parts.sign parts.whole parts.fraction are.sign whole_is_digits

  whole_is : (parts_of (spelling parts)).whole ≡ parts.whole
  whole_is = grind (arith, unsigned, point-after_digits, whole_is_digits, take_at)

  fraction_is : (parts_of (spelling parts)).fraction ≡ parts.fraction
  fraction_is = ap fraction_of unsigned ∙ fraction_of-spelling parts.whole parts.fraction whole_is_digits

  pub parts_of-spelling : parts_of (spelling parts) ≡ parts
  parts_of-spelling = grind (arith, whole_is, fraction_is)

pub is_number_of : (field : List ℕ) (number : ℤ) (signed : Bool) → number ≡ tenthousandths_of field → signed ≡ is_signed field → IsNumberOf field number signed
is_number_of field number signed is_number is_flag = grind (arith, parts_of-spelling)

-- Before the point of a value field stand digits, and after it.
pub whole-All : (field : List ℕ) → IsField field → All IsAsciiDigit (parts_of field).whole
whole-All field is =
    let P : Parts → Type 0 = λ p. All IsAsciiDigit p.whole in
    subst P (sym (ap parts_of is.2 ∙ parts_of-spelling is.0 is.1)) is.1.whole

fraction_digits : (fraction : Option (List ℕ)) → IfSome fraction (All IsAsciiDigit) → All IsAsciiDigit (unwrap_or fraction [])
fraction_digits fraction h = grind arith

pub fraction-All : (field : List ℕ) → IsField field → All IsAsciiDigit (unwrap_or (parts_of field).fraction [])
fraction-All field is =
    let P : Parts → Type 0 = λ p. All IsAsciiDigit (unwrap_or p.fraction []) in
    subst P (sym (ap parts_of is.2 ∙ parts_of-spelling is.0 is.1)) (fraction_digits is.0.fraction is.1.fraction)

point_is : (unsigned : List ℕ) → position_or_len is_point unsigned < length unsigned → get_or unsigned (position_or_len is_point unsigned) 0 ≡ 46
point_is unsigned h = eqb-true _ 46 (passes_at_first is_point unsigned 0 h)

cut_at_point : (unsigned : List ℕ) (b : Bool) → nat_lt (position_or_len is_point unsigned) (length unsigned) ≡ b
    → unsigned ≡ before_first is_point unsigned ++ fraction_bytes (option_map (λ point. drop (point + 1) unsigned) (cond b (Some (position_or_len is_point unsigned)) None))
cut_at_point unsigned true h =
    let inside = ltb-true _ _ h in
    grind (arith, split_at_first is_point unsigned 0 inside, point_is unsigned inside)
cut_at_point unsigned false h = grind (arith, append-nil (before_first is_point unsigned), take_all _ unsigned (ltb-false _ _ h))

-- A text that has only digits before and after its point is a value field.
pub IsField-from_digits : (text : List ℕ) → length text ≤ longest_field → All IsAsciiDigit (parts_of text).whole → All IsAsciiDigit (unwrap_or (parts_of text).fraction []) → IsField text
IsField-from_digits text short whole fraction =
    let are : AreParts (parts_of text) = record { sign = grind arith; whole = whole; fraction = grind arith } in
    (parts_of text, are, grind arith ∙ ap (λ rest. option_to_list (sign_of text) ++ rest) (cut_at_point (unsigned_part text) _ refl), short)
