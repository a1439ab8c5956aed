-- Texts in which no character is to be escaped.
use Rattle.std.proofs.Common.{◌≡◌, ◌∙◌, ◌++◌, ℕ, List, [], ◌∷◌, Bool, true, false, cond, refl, ap, arith}
use Rattle.std.specs.List.{list_all}
use Rattle.std.proofs.lemmas.Bool.{and_parts}
use Rattle.press_trace.specs.Spelled.{escape_of, is_control, is_plain, spelled, spelled_byte}

plain_byte : (byte : ℕ) → is_plain byte ≡ true → spelled_byte byte ≡ byte ∷ []
plain_byte byte plain = grind arith

plain_first : (first second : ℕ) → is_plain first ≡ true → is_control first second ≡ false
plain_first first second plain = grind arith

-- bytes that stand for themselves are spelled as they are
pub spelled_plain : (text : List ℕ) → list_all is_plain text ≡ true → spelled text ≡ text
spelled_plain [] plain = refl
spelled_plain (byte ∷ []) plain = plain_byte byte (and_parts (is_plain byte) true plain).0
spelled_plain (first ∷ second ∷ text) plain =
    let parts = and_parts (is_plain first) (list_all is_plain (second ∷ text)) plain in
    ap (λ (high : Bool). cond high (escape_of second ++ spelled text) (spelled_byte first ++ spelled (second ∷ text))) (plain_first first second parts.0)
    ∙ (λ i. plain_byte first parts.0 i ++ spelled_plain (second ∷ text) parts.1 i)
