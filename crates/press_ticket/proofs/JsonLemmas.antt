-- The value of a text.
use Rattle.std.proofs.Common.{◌≡◌, ℕ, List, Bool, true, false, Some, None, if◌then◌else◌, refl, ap, ◌∙◌}
use Rattle.std.specs.Str.{IsUtf8, is_utf8}
use Rattle.std.proofs.lemmas.Str.{IsUtf8-from_is_utf8, is_utf8-from_IsUtf8}
use Rattle.serde_json.specs.Data.{Data}
use Rattle.serde_json.specs.Read.{read}
use Rattle.press_ticket.specs.Reading.{json_of}

pub json_read : (bytes : List ℕ) (value : Data) → IsUtf8 bytes → read bytes ≡ Some value → json_of bytes ≡ Some value
json_read bytes value utf8 is_read = ap (λ b. if b then read bytes else None) (is_utf8-from_IsUtf8 bytes utf8) ∙ is_read

pub json_unread : (bytes : List ℕ) → (IsUtf8 bytes → read bytes ≡ None) → json_of bytes ≡ None
json_unread bytes unread = cases (is_utf8 bytes) refl
  where
    cases : (b : Bool) → is_utf8 bytes ≡ b → json_of bytes ≡ None
    cases true e = ap (λ c. if c then read bytes else None) e ∙ unread (IsUtf8-from_is_utf8 bytes e)
    cases false e = ap (λ c. if c then read bytes else None) e
