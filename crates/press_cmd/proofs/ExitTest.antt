-- Which parameters spell the universal exit.
use Rattle.std.proofs.Common.{◌≡◌, ◌≤◌, ◌++◌, ℕ, List, [], ◌∷◌, length, Bool, true, false, Option, arith}
use Rattle.std.specs.Prelude.{is_some, bytes_eq, IsTrue, ◌==◌, ◌↔◌}
use Rattle.std.proofs.lemmas.Slice.Eq.{bytes_eq-Decides}
use Rattle.std.proofs.lemmas.List.{nil_from_length}
use Rattle.press_cmd.specs.Token.{uel, bytes_of, param_of}
use Rattle.press_cmd.specs.Grammar.{IsEnd}

-- what follows the character in an exit, cut at a byte from 64 on
pub record IsExitTail (f : List ℕ) (e : ℕ) (d : List ℕ) : Type 0 where
  pub field : f ≡ 45 ∷ 49 ∷ 50 ∷ 51 ∷ 52 ∷ 53 ∷ []
  pub end : e ≡ 88
  pub payload : d ≡ []

exit_tail : (f : List ℕ) (e : ℕ) (d : List ℕ) → 64 ≤ e → f ++ (e ∷ d) ≡ 45 ∷ 49 ∷ 50 ∷ 51 ∷ 52 ∷ 53 ∷ 88 ∷ [] → IsExitTail f e d
exit_tail [] e d high h = let at : e ≡ 45 = cc in absurd (omega arith)
exit_tail (a ∷ []) e d high h = let at : e ≡ 49 = cc in absurd (omega arith)
exit_tail (a ∷ b ∷ []) e d high h = let at : e ≡ 50 = cc in absurd (omega arith)
exit_tail (a ∷ b ∷ c ∷ []) e d high h = let at : e ≡ 51 = cc in absurd (omega arith)
exit_tail (a ∷ b ∷ c ∷ x ∷ []) e d high h = let at : e ≡ 52 = cc in absurd (omega arith)
exit_tail (a ∷ b ∷ c ∷ x ∷ y ∷ []) e d high h = let at : e ≡ 53 = cc in absurd (omega arith)
exit_tail (a ∷ b ∷ c ∷ x ∷ y ∷ z ∷ []) e d high h = record { field = cc; end = cc; payload = cc }
exit_tail (a ∷ b ∷ c ∷ x ∷ y ∷ z ∷ w ∷ []) e d high h = cc
exit_tail (a ∷ b ∷ c ∷ x ∷ y ∷ z ∷ w ∷ v ∷ f) e d high h = cc

exit_param : (c : ℕ) (g : Option ℕ) (f : List ℕ) (e : ℕ) (d : List ℕ) → is_some g ≡ false → IsEnd e → bytes_of (param_of c g f e d) ≡ uel → IsExitTail f e d
exit_param c g f e d no_group class h = grind (arith, exit_tail)

-- the test: no group, `%`, X, the field -12345 and no data
module _ (c : ℕ) (g : Option ℕ) (f : List ℕ) (e : ℕ) (d text : List ℕ) (no_group : is_some g ≡ false) (class : IsEnd e) (is_text : text ≡ 45 ∷ 49 ∷ 50 ∷ 51 ∷ 52 ∷ 53 ∷ []) where
  pub exit_decides : (answer : Bool) → c ≡ 37 → e ≡ 88 → true ≡ bytes_eq f text → answer ≡ (length d == 0) → IsTrue answer ↔ (bytes_of (param_of c g f e d) ≡ uel)
  exit_decides answer is_percent is_x same is_empty = grind (arith, bytes_eq-Decides, nil_from_length)

  pub other_field : (answer : Bool) → false ≡ bytes_eq f text → answer ≡ false → IsTrue answer ↔ (bytes_of (param_of c g f e d) ≡ uel)
  other_field answer other never = grind (arith, exit_param)

pub other_end : (c : ℕ) (g : Option ℕ) (f : List ℕ) (e : ℕ) (d : List ℕ) → is_some g ≡ false → IsEnd e → (answer : Bool) → answer ≡ false
    → (e ≡ 88 → ⊥) → IsTrue answer ↔ (bytes_of (param_of c g f e d) ≡ uel)
other_end c g f e d no_group class answer never other = grind (arith, exit_param)
