-- That no number stands twice, after changes of the entries.
use Rattle.std.proofs.Common.{◌≡◌, ℕ, List, [], ◌∷◌, Bool, true, false, nat_eq, None, Some, cond, insert, refl, arith}
use Rattle.std.specs.List.{AllByRecursion, IsDistinct}
use Rattle.std.specs.List.Sorted.{IsPermutation}
use Rattle.std.specs.Map.{keys_of, lookup}
use Rattle.std.proofs.lemmas.Bool.{eqb-true}
use Rattle.std.proofs.lemmas.List.Sorted.{IsPermutation-cons, IsPermutation-insert, IsPermutation-map, IsPermutation-refl, IsPermutation-trans}
use Rattle.std.proofs.lemmas.Map.Keys.{IsDistinct-IsPermutation}
use Rattle.press_queue.specs.declared.entry.Entry.{Entry}
use Rattle.press_queue.specs.Entries.{without_entry}

-- a number that has no entry is none of the numbers
pub not_among : (number : ℕ) (es : List (ℕ × Entry)) → lookup (nat_eq number) es ≡ None → AllByRecursion (λ k. nat_eq number k ≡ false) (keys_of es)
not_among number [] none = tt
not_among number (e ∷ es) none = grind (arith, not_among number es)

-- the order is no matter
distinct_moved : (es fs : List (ℕ × Entry)) → IsPermutation es fs → IsDistinct nat_eq (keys_of es) → IsDistinct nat_eq (keys_of fs)
distinct_moved es fs moves distinct =
    IsDistinct-IsPermutation nat_eq (λ x y. grind arith) (keys_of es) (keys_of fs) (IsPermutation-map (λ (e : ℕ × Entry). e.0) es fs moves) distinct

-- with a new entry, at any index
pub distinct_insert : (i number : ℕ) (entry : Entry) (es : List (ℕ × Entry)) → AllByRecursion (λ k. nat_eq number k ≡ false) (keys_of es) → IsDistinct nat_eq (keys_of es)
    → IsDistinct nat_eq (keys_of (insert es i (number, entry)))
unfolding IsDistinct
distinct_insert i number entry es apart distinct =
    distinct_moved ((number, entry) ∷ es) (insert es i (number, entry)) (IsPermutation-insert es i (number, entry)) (apart, distinct)

-- the entry of a number, moved to the front
to_front : (number : ℕ) (entry : Entry) (es : List (ℕ × Entry)) → lookup (nat_eq number) es ≡ Some entry → IsPermutation es ((number, entry) ∷ without_entry number es)
to_front number entry [] there = absurd (cc)
to_front number entry (e ∷ es) there = at (nat_eq number e.0) refl there (to_front number entry es)
  where
    others : List (ℕ × Entry)
    others = without_entry number es

    at : (b : Bool) → nat_eq number e.0 ≡ b → cond b (Some e.1) (lookup (nat_eq number) es) ≡ Some entry
        → (lookup (nat_eq number) es ≡ Some entry → IsPermutation es ((number, entry) ∷ others)) → IsPermutation (e ∷ es) ((number, entry) ∷ cond b es (e ∷ others))
    at true is found below = grind (arith, eqb-true, IsPermutation-refl)
    at false is found below =
        IsPermutation-trans (e ∷ es) (e ∷ (number, entry) ∷ others) ((number, entry) ∷ e ∷ others)
        (IsPermutation-cons e es ((number, entry) ∷ others) (below found)) (IsPermutation-insert ((number, entry) ∷ others) 1 e)

-- without an entry its number is none of the numbers, and no other stands twice
pub distinct_without : (number : ℕ) (entry : Entry) (es : List (ℕ × Entry)) → lookup (nat_eq number) es ≡ Some entry → IsDistinct nat_eq (keys_of es)
    → AllByRecursion (λ k. nat_eq number k ≡ false) (keys_of (without_entry number es)) × IsDistinct nat_eq (keys_of (without_entry number es))
unfolding IsDistinct
distinct_without number entry es there distinct = distinct_moved es ((number, entry) ∷ without_entry number es) (to_front number entry es there) distinct
