-- The tests of reading, as facts.
use Rattle.std.proofs.Common.{◌≡◌, ◌<◌, ◌≤◌, ℕ, List, [], ◌∷◌, ◌++◌, true, false, arith}
use Rattle.std.specs.Int.{IsInRange, is_in_range}
use Rattle.std.proofs.lemmas.Bool.{eqb-true, eq-eqb, ne_eqb, eqb-false, false_from_ne_true}
use Rattle.std.proofs.lemmas.Bool.Decides.{nat_tests}
use Rattle.press_units.specs.Field.{is_field_byte, is_value_field}
use Rattle.press_cmd.specs.Grammar.{IsEnd, IsEarlierEnd, IsEscapeEnd, IsCharacter, IsText}
use Rattle.press_cmd.proofs.Reading.{extends, is_end, is_earlier_end, is_escape_end, is_character, is_control, is_text, is_escape, is_feed}
use Rattle.press_units.proofs.FieldTest.{test-byte}

pub range-true : (low high b : ℕ) → is_in_range low high b ≡ true → IsInRange low high b
range-true low high b h = grind (arith, nat_tests)

pub range-from : (low high b : ℕ) → IsInRange low high b → is_in_range low high b ≡ true
range-from low high b h = grind (arith, nat_tests)

pub range-below : (low high b : ℕ) → b < low → is_in_range low high b ≡ false
range-below low high b h = grind (arith, nat_tests)

pub is_end-true : (b : ℕ) → is_end b ≡ true → IsEnd b
unfolding is_end
is_end-true b h = range-true 64 94 b h

pub is_end-from : (b : ℕ) → IsEnd b → is_end b ≡ true
unfolding is_end
is_end-from b h = range-from 64 94 b h

pub is_end-above : (b : ℕ) → 94 < b → is_end b ≡ false
unfolding is_end
is_end-above b h = grind (arith, nat_tests)

pub is_earlier_end-true : (b : ℕ) → is_earlier_end b ≡ true → IsEarlierEnd b
unfolding is_earlier_end
is_earlier_end-true b h = range-true 96 126 b h

pub is_earlier_end-from : (b : ℕ) → IsEarlierEnd b → is_earlier_end b ≡ true
unfolding is_earlier_end
is_earlier_end-from b h = range-from 96 126 b h

pub is_escape_end-true : (b : ℕ) → is_escape_end b ≡ true → IsEscapeEnd b
unfolding is_escape_end
is_escape_end-true b h = range-true 48 126 b h

pub is_escape_end-from : (b : ℕ) → IsEscapeEnd b → is_escape_end b ≡ true
unfolding is_escape_end
is_escape_end-from b h = range-from 48 126 b h

pub is_escape_end-below : (b : ℕ) → b < 48 → is_escape_end b ≡ false
unfolding is_escape_end
is_escape_end-below b h = grind (arith, nat_tests)

pub is_character-true : (b : ℕ) → is_character b ≡ true → IsCharacter b
unfolding is_character
is_character-true b h = range-true 33 47 b h

pub is_character-from : (b : ℕ) → IsCharacter b → is_character b ≡ true
unfolding is_character
is_character-from b h = range-from 33 47 b h

pub is_text-true : (b : ℕ) → is_text b ≡ true → IsText b
unfolding is_text
is_text-true b h = range-true 32 255 b h

pub is_text-from : (b : ℕ) → IsText b → is_text b ≡ true
unfolding is_text
is_text-from b h = range-from 32 255 b h

pub is_escape-true : (b : ℕ) → is_escape b ≡ true → b ≡ 27
unfolding is_escape
is_escape-true b h = eqb-true b 27 h

pub is_escape-from : (b : ℕ) → b ≡ 27 → is_escape b ≡ true
unfolding is_escape
is_escape-from b h = eq-eqb b 27 h

pub is_escape-other : (b : ℕ) → (b ≡ 27 → ⊥) → is_escape b ≡ false
unfolding is_escape
is_escape-other b h = ne_eqb b 27 h

pub is_escape-false : (b : ℕ) → is_escape b ≡ false → b ≡ 27 → ⊥
unfolding is_escape
is_escape-false b h = eqb-false b 27 h

pub is_control-from : (b : ℕ) → b < 32 → is_control b ≡ true
unfolding is_control
is_control-from b h = range-from 0 31 b (omega arith, omega arith)

pub is_control-true : (b : ℕ) → is_control b ≡ true → b < 32
unfolding is_control
is_control-true b h = let r = range-true 0 31 b h in omega arith

pub is_control-above : (b : ℕ) → 32 ≤ b → is_control b ≡ false
unfolding is_control
is_control-above b h = grind (arith, nat_tests)

pub is_feed-true : (b : ℕ) → is_feed b ≡ true → b ≡ 10
unfolding is_feed
is_feed-true b h = eqb-true b 10 h

pub extends-true : (f : List ℕ) (b : ℕ) → extends f b ≡ true → is_value_field (f ++ (b ∷ [])) ≡ true
unfolding extends
extends-true f b h = h

pub extends-from : (f : List ℕ) (b : ℕ) → is_value_field (f ++ (b ∷ [])) ≡ true → extends f b ≡ true
unfolding extends
extends-from f b h = h

field_byte-below : (b : ℕ) → is_field_byte b ≡ true → b < 64
field_byte-below b h = grind (arith, nat_tests)

-- a byte from 64 on is none of a value field
pub extends-past : (f : List ℕ) (b : ℕ) → 64 ≤ b → extends f b ≡ false
unfolding extends
extends-past f b h = false_from_ne_true _ (λ t. absurd (omega (arith, field_byte-below b (test-byte f b [] t))))
