use Rattle.std.proofs.Common.{◌∙◌, ◌≡◌, ◌≤◌, ◌↔◌, IsTrue, List, ℕ, [], Bool, false, length, subst, sym, ap, arith}
use Rattle.std.specs.Prelude.{unwrap_or}
use Rattle.std.specs.List.{All, before_first}
use Rattle.std.specs.Char.{IsAsciiDigit}
use Rattle.std.proofs.lemmas.Bool.{false≢true}
use Rattle.press_units.specs.Field.{IsField, longest_field, is_point}
use Rattle.press_units.specs.Value.{unsigned_part, fraction_of, parts_of}
use Rattle.press_units.proofs.FieldLemmas.{whole-All, fraction-All, IsField-from_digits}
use Rattle.press_units.proofs.FieldTest.{decides-test}
use Rattle.press_units.proofs.value.is_field.Goals as goal

-- digits before the point, and the answer on those after it
fraction_decides : (text unsigned whole fraction : List ℕ) (answer : Bool) → length text ≤ longest_field
    → unsigned ≡ unsigned_part text → whole ≡ before_first is_point unsigned → fraction ≡ unwrap_or (fraction_of unsigned) []
    → All IsAsciiDigit whole → (IsTrue answer ↔ All IsAsciiDigit fraction) → IsTrue answer ↔ IsField text
fraction_decides text unsigned whole fraction answer short rest before after digits decides =
    let P : List ℕ → Type 0 = All IsAsciiDigit in
    let is_whole : whole ≡ (parts_of text).whole = before ∙ ap (before_first is_point) rest in
    let is_fraction : fraction ≡ unwrap_or (parts_of text).fraction [] = after ∙ ap (λ u. unwrap_or (fraction_of u) []) rest in
    (λ yes. IsField-from_digits text short (subst P is_whole digits) (subst P is_fraction (decides.0 yes)), λ is. decides.1 (subst P (sym is_fraction) (fraction-All text is)))

-- what stands before the point is not all digits
no_digits : (text unsigned whole : List ℕ) (answer : Bool) → unsigned ≡ unsigned_part text → whole ≡ before_first is_point unsigned
    → answer ≡ false → (IsTrue answer ↔ All IsAsciiDigit whole) → IsTrue answer ↔ IsField text
no_digits text unsigned whole answer rest before never decides =
    let P : List ℕ → Type 0 = All IsAsciiDigit in
    (λ yes. absurd (false≢true (sym never ∙ yes)), λ is. decides.1 (subst P (sym (before ∙ ap (before_first is_point) rest)) (whole-All text is)))

pub returns-then-are_digits-clause-field : goal.returns-then-are_digits-clause-field
returns-then-are_digits-clause-field c =
    fraction_decides c.args.bytes.now _ _ _ c.are_digits-then-are_digits.result (omega arith) c.split_sign.ensures.unsigned
    c.split_point.ensures.whole c.split_point.ensures.fraction (c.are_digits.ensures.0 c.if-are_digits.true)
    c.are_digits-then-are_digits.ensures

pub returns-then-are_digits-clause-test : goal.returns-then-are_digits-clause-test
returns-then-are_digits-clause-test c =
    let field = returns-then-are_digits-clause-field c in
    decides-test c.args.bytes.now c.are_digits-then-are_digits.result field.0 field.1

pub returns-else-are_digits-clause-field : goal.returns-else-are_digits-clause-field
returns-else-are_digits-clause-field c =
    no_digits c.args.bytes.now _ _ c.are_digits.result c.split_sign.ensures.unsigned c.split_point.ensures.whole c.if-are_digits.false c.are_digits.ensures

pub returns-else-are_digits-clause-test : goal.returns-else-are_digits-clause-test
returns-else-are_digits-clause-test c =
    let field = returns-else-are_digits-clause-field c in
    decides-test c.args.bytes.now c.are_digits.result field.0 field.1
