-- Numbers of entries: each up to the last number given.
use Rattle.std.proofs.Common.{◌≡◌, ℕ, ◌+◌, ◌<◌, List, [], ◌∷◌, Bool, true, not, nat_eq, nat_le, None, refl, arith, rules}
use Rattle.std.specs.Map.{lookup}
use Rattle.press_queue.specs.declared.entry.Entry.{Entry}
use Rattle.press_queue.specs.EveryQueue.{are_up_to}
use Rattle.press_queue.specs.Entries.{with_entry, put}
use Rattle.press_queue.proofs.CountLemmas.{count_of, count-insert, count_le}

abbrev pub is_above : ℕ → ℕ × Entry → Bool
is_above last e = not (nat_le e.0 last)

-- each is up to a number where none is above it
pub none-above : (last : ℕ) (es : List (ℕ × Entry)) → are_up_to last es ≡ true → count_of (is_above last) es ≡ 0
none-above last [] h = refl
none-above last (e ∷ es) h = grind (arith, rules, h, none-above last es)

pub up_to-none : (last : ℕ) (es : List (ℕ × Entry)) → count_of (is_above last) es ≡ 0 → are_up_to last es ≡ true
up_to-none last [] h = refl
up_to-none last (e ∷ es) h = grind (arith, rules, h, up_to-none last es)

pub up_to_with_entry : (last number : ℕ) (entry : Entry) (es : List (ℕ × Entry)) → are_up_to last es ≡ true → are_up_to last (with_entry number entry es) ≡ true
up_to_with_entry last number entry [] h = refl
up_to_with_entry last number entry (e ∷ es) h = grind (arith, rules, h, up_to_with_entry last number entry es)

-- a number above all has no entry
pub absent_above : (last number : ℕ) (es : List (ℕ × Entry)) → last < number → are_up_to last es ≡ true → lookup (nat_eq number) es ≡ None
absent_above last number [] above h = refl
absent_above last number (e ∷ es) above h = grind (arith, rules, above, h, absent_above last number es above)

-- one more, under the next number
pub up_to_put_next : (last : ℕ) (entry : Entry) (es : List (ℕ × Entry)) → are_up_to last es ≡ true → are_up_to (last + 1) (put (last + 1) entry es) ≡ true
up_to_put_next last entry es h =
    up_to-none (last + 1) (put (last + 1) entry es)
    (grind (arith, rules, count-insert, none-above last es h, count_le (is_above (last + 1)) (is_above last) (λ e is. grind (arith, rules, is)) es))
