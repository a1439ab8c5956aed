-- What stands under the number of the first entry that passes a test, and of the one that comes next.
use Rattle.std.proofs.Common.{◌≡◌, ◌&&◌, ℕ, nat_le, if◌then◌else◌, Bool, true, false, List, [], ◌∷◌, Some, nat_eq, find, sym, ◌∙◌, arith, rules}
use Rattle.std.specs.Cmp.{nat_eq_equiv}
use Rattle.std.specs.List.{IsDistinct, position_or_len}
use Rattle.std.specs.Map.{keys_of, lookup}
use Rattle.std.proofs.lemmas.List.Folds.{find_at}
use Rattle.std.proofs.lemmas.Map.Entries.{lookup_from_place}
use Rattle.press_queue.specs.declared.entry.Entry.{Entry}
use Rattle.press_queue.specs.Entries.{count_in_flight, first_to_go_on, first_waiting}
use Rattle.press_queue.specs.Rows.{most_in_flight, next_to_run}
use Rattle.press_queue.specs.Status.{is_waiting}
use Rattle.press_queue.proofs.StatusLemmas.{and-first}

-- the first that passes, and it is the one of its number
first_passes : {X : Type 0} (p : ℕ × X → Bool) (es : List (ℕ × X)) (x : ℕ × X) → find p es ≡ Some x → p x ≡ true
first_passes p [] x found = absurd (cc)
first_passes p (e ∷ es) x found = grind (arith, rules, found, first_passes p es x)

pub first_is_numbered : {X : Type 0} (p : ℕ × X → Bool) (es : List (ℕ × X)) (x : ℕ × X) → IsDistinct nat_eq (keys_of es) → find p es ≡ Some x
    → (p x ≡ true) × (lookup (nat_eq x.0) es ≡ Some x.1)
first_is_numbered p es x distinct found =
    (first_passes p es x found, lookup_from_place nat_eq_equiv es (position_or_len p es) x.0 x.1 distinct (sym (find_at p es) ∙ found))

-- the entry that comes next waits, and is the one of its number
pub next_is_numbered : (entries : List (ℕ × Entry)) (x : ℕ × Entry) → IsDistinct nat_eq (keys_of entries) → next_to_run entries ≡ Some x
    → (is_waiting x.1.status ≡ true) × (lookup (nat_eq x.0) entries ≡ Some x.1)
next_is_numbered entries x distinct found = at (nat_le most_in_flight (count_in_flight entries)) found
  where
    at : (full : Bool) → (if full then first_to_go_on entries else first_waiting entries) ≡ Some x
        → (is_waiting x.1.status ≡ true) × (lookup (nat_eq x.0) entries ≡ Some x.1)
    at true found =
        let first = first_is_numbered (λ y. is_waiting y.1.status && y.1.begun) entries x distinct found in
        (and-first (is_waiting x.1.status) x.1.begun first.0, first.1)
    at false found = first_is_numbered (λ y. is_waiting y.1.status) entries x distinct found
