-- How many bytes a command has at most.
use Rattle.std.proofs.Common.{◌≡◌, ◌≤◌, ◌/◌, ℕ, zero, suc, pos, neg_ℤ, List, [], ◌∷◌, ◌++◌, length, Bool, true, false}
use Rattle.std.proofs.Common.{cond, min, Option, Some, None, refl, ap, inl, inr, arith, length-append, nat_le, lit≤}
use Rattle.std.proofs.lemmas.Bool.{and_parts, leb-true, le-leb}
use Rattle.std.proofs.Math.Bool.{Bool-set}
use mathlib.Core.Logic.{∥∥₁_elim}
use Rattle.press_units.specs.Field.{is_value_field, is_field_text, longest_field}
use Rattle.press_units.specs.Value.{with_sign, is_minus, whole_part, lowest, highest, greatest, parts_of, magnitude_of}
use Rattle.std.specs.Option.{unwrap_or}
use Rattle.press_cmd.specs.Carried.{count_of, carries_data, data_count, longest_data}
use Rattle.press_cmd.specs.ParserState.{ParserState, Pcl}
use Rattle.press_cmd.specs.Grammar.{Whole, IsPjlLine, IsBroken}
use Rattle.press_cmd.specs.Token.{Token, Escape, Grouped, Ungrouped, Control, Text, Broken, Uel, PjlLine, ForeignByte, bytes_of}
use Rattle.press_cmd.specs.Stored.{IsSound, longest_command}

-- ---- data

below_zero : (n : ℕ) → count_of (neg_ℤ (pos n)) ≡ 0
below_zero zero = refl
below_zero (suc n) = refl

minus-fits : (n : ℕ) → count_of (whole_part (neg_ℤ (pos n))) ≤ greatest
minus-fits zero = lit≤ tt
minus-fits (suc n) = omega (arith, below_zero (suc n / 10000))

plus-fits : (n : ℕ) → count_of (whole_part (pos (min n highest))) ≤ greatest
plus-fits n = omega arith

signed-fits : (minus : Bool) (n : ℕ) → count_of (whole_part (cond minus (neg_ℤ (pos (min n lowest))) (pos (min n highest)))) ≤ greatest
signed-fits true n = minus-fits (min n lowest)
signed-fits false n = plus-fits n

carried-fits : (carries : Bool) (sign : Option ℕ) (n : ℕ) → cond carries (count_of (whole_part (with_sign sign n))) 0 ≤ longest_data
carried-fits true sign n = signed-fits (is_minus sign) n
carried-fits false sign n = lit≤ tt

pub data_count-fits : (character : ℕ) (group : Option ℕ) (field : List ℕ) (end : ℕ) → data_count character group field end ≤ longest_data
data_count-fits character group field end =
    carried-fits (carries_data character group end) (parts_of field).sign (magnitude_of (parts_of field).whole (unwrap_or (parts_of field).fraction []))

-- ---- whole commands, and what goes on to one

value_field-fits : (field : List ℕ) → is_value_field field ≡ true → length field ≤ longest_field
value_field-fits field is = leb-true _ _ (and_parts (is_field_text field) (nat_le (length field) longest_field) is).1

whole-fits : (bytes : List ℕ) (command : Token) (next : ParserState) → Whole Pcl bytes command next → length bytes ≤ longest_command
whole-fits bytes (Escape byte) next w = omega (arith, ap length w.1)
whole-fits bytes (Grouped c g f e d) next w =
    let few = data_count-fits c (Some g) f e in
    let pair = w.is_pair in
    omega (arith, ap length w.spelled, ap length pair.spelled, length-append f (pair.byte ∷ d), pair.value_field.3, pair.count, few)
whole-fits bytes (Ungrouped c f e d) next w =
    let few = data_count-fits c None f e in
    omega (arith, ap length w.0.spelled, length-append f (e ∷ d), w.0.value_field.3, w.0.count, few)
whole-fits bytes (Control byte) next w = omega (arith, ap length w.1)
whole-fits bytes (Text byte) next w = omega (arith, ap length w.1)
whole-fits bytes (Broken broken) next w = absurd w
whole-fits bytes Uel next w = omega (arith, ap length w.0)
whole-fits bytes (PjlLine line) next w = absurd w
whole-fits bytes (ForeignByte byte) next w = absurd w

broken-fits : (bytes : List ℕ) → IsBroken bytes → length bytes ≤ longest_command
broken-fits bytes (inl one) = omega (arith, one)
broken-fits bytes (inr (inl line)) = omega (arith, line.1)
broken-fits bytes (inr (inr on)) =
    let fits = whole-fits (bytes ++ (on.1.0 ∷ on.1.1)) on.1.2 on.1.3 on.1.4 in
    omega (arith, fits, length-append bytes (on.1.0 ∷ on.1.1))

known-fits : (bytes : List ℕ) (Is : List ℕ → Type 0) → ((some_bytes : List ℕ) → Is some_bytes → length some_bytes ≤ longest_command) → ∥ Is bytes ∥₁ → length bytes ≤ longest_command
known-fits bytes Is fits known = leb-true _ _ (∥∥₁_elim known (Bool-set (nat_le (length bytes) longest_command) true) (λ is. le-leb _ _ (fits bytes is)))

line-fits : (bytes : List ℕ) → IsPjlLine bytes → length bytes ≤ longest_command
line-fits bytes is = omega (arith, is.fits)

pub sound-fits : (command : Token) → IsSound command → length (bytes_of command) ≤ longest_command
sound-fits (Escape byte) is = lit≤ tt
sound-fits (Grouped c g f e d) is =
    let few = data_count-fits c (Some g) f e in
    omega (arith, length-append f (e ∷ d), value_field-fits f is.value_field, is.count, few)
sound-fits (Ungrouped c f e d) is =
    let few = data_count-fits c None f e in
    omega (arith, length-append f (e ∷ d), value_field-fits f is.value_field, is.count, few)
sound-fits (Control byte) is = lit≤ tt
sound-fits (Text byte) is = lit≤ tt
sound-fits (Broken bytes) is = known-fits bytes IsBroken broken-fits is
sound-fits Uel is = lit≤ tt
sound-fits (PjlLine line) is = known-fits line IsPjlLine line-fits is
sound-fits (ForeignByte byte) is = lit≤ tt
