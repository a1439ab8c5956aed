-- The parts of a parameter in its bytes.
use Rattle.std.proofs.Common.{◌≡◌, ◌<◌, ◌∙◌, ◌+◌, ℕ, zero, suc, List, [], ◌∷◌, length, take, drop, slice_index, Bool, cond, not, Option, refl, ap, arith}
use Rattle.std.specs.List.{position_or_len, between}
use Rattle.std.proofs.lemmas.Grind.{common_steps}
use Rattle.press_cmd.specs.Token.{param_of}
use Rattle.press_cmd.specs.Stored.{is_past_field, field_split, ending, IsParameter, IsSound}

field-take : (bytes : List ℕ) → take (position_or_len is_past_field bytes) bytes ≡ (field_split bytes).0
field-take [] = refl
field-take (byte ∷ bytes) = at (is_past_field byte) (field-take bytes)
  where
    at : (past : Bool) → take (position_or_len is_past_field bytes) bytes ≡ (field_split bytes).0
        → take (cond (not past) (1 + position_or_len is_past_field bytes) 0) (byte ∷ bytes)
        ≡ (cond {A = List ℕ × List ℕ} past ([], byte ∷ bytes) (byte ∷ (field_split bytes).0, (field_split bytes).1)).0
    at past rest = grind arith

field-drop : (bytes : List ℕ) → drop (position_or_len is_past_field bytes) bytes ≡ (field_split bytes).1
field-drop [] = refl
field-drop (byte ∷ bytes) = at (is_past_field byte) (field-drop bytes)
  where
    at : (past : Bool) → drop (position_or_len is_past_field bytes) bytes ≡ (field_split bytes).1
        → drop (cond (not past) (1 + position_or_len is_past_field bytes) 0) (byte ∷ bytes)
        ≡ (cond {A = List ℕ × List ℕ} past ([], byte ∷ bytes) (byte ∷ (field_split bytes).0, (field_split bytes).1)).1
    at past rest = grind arith

record Stands (bytes : List ℕ) (n byte : ℕ) (rest : List ℕ) : Type 0 where
  within : n < length bytes
  is : slice_index bytes n ≡ byte
  behind : drop (suc n) bytes ≡ rest

-- The parts of the parameter in the bytes that follow its group, where its field has so many bytes.
pub record Ended (character : ℕ) (group : Option ℕ) (bytes : List ℕ) (n : ℕ) : Type 0 where
  pub within : n < length bytes
  pub parameter : IsParameter character group (take n bytes) (slice_index bytes n) (between (n + 1) (length bytes) bytes)
  pub is : param_of character group (take n bytes) (slice_index bytes n) (between (n + 1) (length bytes) bytes) ≡ ending (param_of character group) (field_split bytes)

pub ended : (character : ℕ) (group : Option ℕ) (bytes : List ℕ) (n : ℕ) → n ≡ position_or_len is_past_field bytes
    → IsSound (ending (param_of character group) (field_split bytes)) → Ended character group bytes n
ended character group bytes n is sound = grind (arith, common_steps, ap (λ k. take k bytes) is ∙ field-take bytes, ap (λ k. drop k bytes) is ∙ field-drop bytes)
