-- Words, some of which may be empty.
use Rattle.std.proofs.Common.{◌≡◌, ◌<◌, ℕ, zero, suc, List, [], ◌∷◌, Bor, Bool, true, false, map, length, get_or, Option, Some, sym, ap, arith}
use Rattle.std.specs.Prelude.{◌||◌}
use Rattle.std.specs.List.{list_any}
use Rattle.press_sessions.specs.declared.event_lines.LineKind.{LineKind}
use Rattle.press_sessions.specs.EventLines.{EventLine, is_empty, kind_named, asked_by, event_in}

-- one word is empty
pub has-empty : (words : List (Bor (List ℕ))) (i : ℕ) (other : Bor (List ℕ)) → i < length words
    → is_empty (get_or words i other).now ≡ true → true ≡ list_any is_empty (map {A = Bor (List ℕ)} {B = List ℕ} (λ word. word.now) words)
has-empty [] i other inside empty = absurd (omega arith)
has-empty (word ∷ words) zero other inside empty = sym (ap (λ (t : Bool). t || list_any is_empty (map {A = Bor (List ℕ)} {B = List ℕ} (λ word. word.now) words)) empty)
has-empty (word ∷ words) (suc i) other inside empty = grind (arith, has-empty words i other (omega (arith, inside)) empty)

-- the event of words, none of which is empty
pub event-named : (words : List (List ℕ)) (first : List ℕ) (others : List (List ℕ)) (kind : LineKind) (asked : Option EventLine)
    → list_any is_empty words ≡ false → words ≡ first ∷ others → kind_named first ≡ Some kind → asked ≡ asked_by kind others
    → asked ≡ event_in words
event-named words first others kind asked full are named is = grind arith
